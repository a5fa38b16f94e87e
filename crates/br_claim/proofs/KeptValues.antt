-- The machine values of a seat and of what keeps it.
use Rattle.atomic_table.proofs.Names.{◌≡◌, [], ◌∷◌, ◌++◌, ap, ◌∙◌, List, Val, vstruct, vcons, vnil, of_list, RattleType, Is}
use Rattle.atomic_table.proofs.Fields.{token_val, token_told}
use Rattle.atomic_table.specs.contracts.shared.Seat as seat
use denote.Builtin as builtin
use lib.Dec.{T}
use Prim.Native.Nat.{ℕ}
use seplogic.Ra.Ura.{Ura}
use base.Logic.{via}
use types.Logic.{Logic}
use contract.Lifetimes.{Lfts}
use denote.Exit.{Kept, Last, left}
use denote.Signature.{Slot}
use denote.Param.Mute.{blank, had}
use denote.Param.Send.{IsSend, sendable}
use denote.Triple.Walked.{Goes, stay_dropped}
use Rattle.atomic_table.proofs.shared.Seat.TheSendSync as seated
use Rattle.br_claim.specs.contracts.rule.Hand as hand
use Rattle.br_claim.specs.contracts.kept.Kept as kept

abbrev pub SeatRow : RattleType
SeatRow = seat.the_row builtin.unit hand.the_row

abbrev pub kept_val : Val
kept_val = vstruct (vcons token_val vnil)

pub seat_told : (x : SeatRow.Denot) (vs : List Val) → Is SeatRow x vs → vs ≡ token_val ∷ []
seat_told x vs so = token_told builtin.unit hand.the_row vs so.0

pub kept_told : (x : kept.the_row.Denot) (vs : List Val) → Is kept.the_row x vs → vs ≡ kept_val ∷ []
kept_told x vs so = let is = so.0 in is.1.0 ∙ ap (λ (ws : List Val). vstruct (of_list (ws ++ [])) ∷ []) (seat_told x.seat is.0.0 is.1.1.0)

-- an owner that is used up leaves nothing, if its exit is made of nothing
pub Goes-blank : {M : Type 1} {𝓤 : Ura M} (𝓛 : Logic 𝓤) (n : ℕ) (s : Slot n) (k : Kept)
    → ((κs : Lfts n) (x : (s.row κs).Denot) (f : Last ((s.row κs).exit k) x) → T (blank (left ((s.row κs).exit k) x f))) → Goes 𝓛 n s k (stay_dropped s k)
Goes-blank {𝓤 = 𝓤} 𝓛 n s k is κs x f vs ok = via 𝓤 _ (had 𝓛 (left ((s.row κs).exit k) x f) (is κs x f)) (𝓛.laws.⇛_intro _)

-- a seat, and what keeps it, say the same to every thread
pub seat_send : IsSend SeatRow
seat_send = seated.the_send builtin.unit hand.the_row (search sendable)

pub kept_send : IsSend kept.the_row
kept_send = record { owned = λ d vs. ((λ vss. (tt, (seat_send.owned d.seat vss.0, tt))), tt); leaving = λ k x vs. (tt, tt) }
