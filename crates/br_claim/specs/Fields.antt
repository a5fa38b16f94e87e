-- The fields of the claims, of their word and of a seat, as callers see them.
use Rattle.std.specs.Prelude.{◌≡◌, ◌≤◌, cond, [], vec_capacity}
use Rattle.br_claim.specs.declared.claims.Claims.TheInside.{Inside as ClaimFields}
use Rattle.br_claim.specs.declared.word.ClaimWord.TheInside.{Inside as WordFields}
use Rattle.br_claim.specs.declared.seat.ClaimSeat.TheInside.{Inside as SeatFields}
use Rattle.br_claim.specs.Claims.{Claimed, Counted, Seated}
use Rattle.br_claim.specs.Own.{IsOwn}
use Rattle.br_claim.specs.Rule.{hand, RisesFrom, AllUnder}

abbrev pub word_view : WordFields → Counted
word_view c = record { claims = c.table.shared.table_id; limit = c.limit }

pub record IsSoundWord (c : WordFields) : Type 0 where
  pub words : c.table.shared.table_id.words ≡ 1
  pub key : c.table.shared.key ≡ c.limit

abbrev pub claims_view : ClaimFields → Claimed
claims_view c = record { claims = c.word.claims; limit = c.word.limit; seats = c.made }

pub record AreSound (c : ClaimFields) : Type 0 where
  pub own : IsOwn c.word.claims c.word.limit c.made c.own
  pub made : c.made ≤ 65536

abbrev pub seat_view : SeatFields → Seated
seat_view s = record { claims = s.seat.table_id; limit = s.limit; drawn = s.drawn.items; ended = s.ended }

pub record IsSoundSeat (s : SeatFields) : Type 0 where
  pub knows : s.seat.me ≡ (hand s.limit 1 s.drawn.items (cond s.ended 1 0), [])
  pub room : s.limit ≤ vec_capacity s.drawn
  pub rises : RisesFrom 0 s.drawn.items
  pub under : AllUnder s.limit s.drawn.items
