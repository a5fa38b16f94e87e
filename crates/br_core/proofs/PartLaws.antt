-- The parts of a restore stay what they are to one another.
use Rattle.std.proofs.Common.{◌≡◌, ◌⊎◌, ℕ, ◌<◌, true, cond, List, [], ◌∷◌, ◌++◌, length, map, set, option_map, Some, refl, sym, ap, subst, ◌∙◌, inl, inr}
use Rattle.std.specs.Prelude.{Contains, slice_get}
use Rattle.std.specs.FinMap.{get, insert, get-insert}
use Rattle.std.specs.Ordering.{nat_cmp, eq_by_cmp, is_eq}
use Rattle.std.specs.Cmp.{nat_cmp_total, tied_itself, unsigned_tied}
use Rattle.std.proofs.lemmas.Bool.{ne_eqb}
use Rattle.std.proofs.lemmas.List.{length-set}
use Rattle.std.proofs.lemmas.List.Elements.{Contains-append_cases}
use Rattle.std.proofs.lemmas.Option.{slice_get-map, slice_get_within}
use Rattle.br_model.specs.Meaning.{Hit, Piece}
use Rattle.br_model.specs.Plan as model
use Rattle.br_model.proofs.ListLaws.{first_or_later, none_in}
use Rattle.br_match.specs.declared.hit.Batch.{Batch}
use Rattle.br_join.specs.Joining.{Joining, with_batch, with_closed}
use Rattle.br_join.specs.Room.{data_in, filled}
use Rattle.br_join.specs.declared.room.Room.{Room}
use Rattle.br_core.specs.Parts.{AreParts}
use Rattle.br_core.specs.Statuses.{is_finished, status_of}
use Rattle.br_core.specs.declared.piece_status.Status.{Status}
use Rattle.br_core.specs.declared.piece_status.Status.TheVariants.{Claimed, Finished}
use Rattle.br_core.proofs.PlaceLaws.{same_or_not, set_other, set_same, was_there, without}

-- ---- one status

-- the piece at a place has this status
pub stands_at : (statuses : List Status) (n : ℕ) (s : Status) → slice_get statuses n ≡ Some s → slice_get (map status_of statuses) n ≡ Some (status_of s)
stands_at statuses n s at = slice_get-map status_of statuses n ∙ ap (option_map status_of) at

-- each piece is finished or not as it was, if one has another status that says the same of it
finished_as_was : (statuses : List Status) (n k : ℕ) (was next : Status) → slice_get statuses n ≡ Some was → is_finished was ≡ is_finished next → (k ≡ n) ⊎ (k ≡ n → ⊥)
    → option_map is_finished (slice_get statuses k) ≡ option_map is_finished (slice_get (set statuses n next) k)
finished_as_was statuses n k was next at same (inl e) =
    ap (λ i. option_map is_finished (slice_get statuses i)) e ∙ ap (option_map is_finished) at ∙ ap Some same
    ∙ sym (ap (λ i. option_map is_finished (slice_get (set statuses n next) i)) e
    ∙ ap (option_map is_finished) (set_same statuses n next (slice_get_within statuses n was at)))
finished_as_was statuses n k was next at same (inr apart) = ap (option_map is_finished) (sym (set_other statuses n k next apart))

-- a piece gets another status, and is finished or not as it was
pub parts_go : (plan : model.Plan) (pieces : List Piece) (statuses : List Status) (transit : List (ℕ × Batch)) (joiner : Joining) (n : ℕ) (was next : Status)
    → slice_get statuses n ≡ Some was → is_finished was ≡ is_finished next → AreParts plan pieces statuses transit joiner → AreParts plan pieces (set statuses n next) transit joiner
parts_go plan pieces statuses transit joiner n was next at same parts = record {
  pieces_are = parts.pieces_are;
  each = length-set statuses n next ∙ parts.each;
  names_are = parts.names_are;
  room_is = parts.room_is;
  closed = λ k. parts.closed k ∙ finished_as_was statuses n k was next at same (same_or_not k n);
  known = λ b among. subst (λ m. b.0 < m) (sym (length-set statuses n next)) (parts.known b among);
}

-- ---- reads and takes

-- the hits of a block of a claimed piece come on their way
pub parts_read : (plan : model.Plan) (pieces : List Piece) (statuses : List Status) (transit : List (ℕ × Batch)) (joiner : Joining) (n address next : ℕ) (batch : Batch)
    → slice_get statuses n ≡ Some (Claimed address) → AreParts plan pieces statuses transit joiner
    → AreParts plan pieces (set statuses n (Claimed next)) (transit ++ (n, batch) ∷ []) joiner
parts_read plan pieces statuses transit joiner n address next batch at parts = record {
  pieces_are = gone.pieces_are;
  each = gone.each;
  names_are = gone.names_are;
  room_is = gone.room_is;
  closed = gone.closed;
  known = known;
}
  where
    gone : AreParts plan pieces (set statuses n (Claimed next)) transit joiner
    gone = parts_go plan pieces statuses transit joiner n (Claimed address) (Claimed next) at refl parts

    within : n < length (set statuses n (Claimed next))
    within = subst (λ m. n < m) (sym (length-set statuses n (Claimed next))) (slice_get_within statuses n (Claimed address) at)

    known : (b : ℕ × Batch) → Contains (transit ++ (n, batch) ∷ []) b → b.0 < length (set statuses n (Claimed next))
    known b among =
        elim (Contains-append_cases transit ((n, batch) ∷ []) b among) [
          | inl was ↦ gone.known b was
          | inr now ↦ elim (first_or_later (n, batch) [] b now) [
            | inl e ↦ subst (λ (x : ℕ × Batch). x.0 < length (set statuses n (Claimed next))) e within
            | inr later ↦ absurd (none_in b later)
          ]
        ]

-- a batch is taken
pub parts_taken : (plan : model.Plan) (pieces : List Piece) (statuses : List Status) (transit : List (ℕ × Batch)) (joiner : Joining) (place : ℕ) (batch : List Hit)
    → AreParts plan pieces statuses transit joiner → AreParts plan pieces statuses (without place transit) (with_batch joiner batch)
parts_taken plan pieces statuses transit joiner place batch parts = record {
  pieces_are = parts.pieces_are;
  each = parts.each;
  names_are = parts.names_are;
  room_is = ap (λ (r : Room). filled r (data_in batch)) parts.room_is;
  closed = parts.closed;
  known = λ b among. parts.known b (was_there transit place b among);
}

-- ---- the end of a walk

-- a piece is finished, and the joiner closes it
pub parts_finished : (plan : model.Plan) (pieces : List Piece) (statuses : List Status) (transit : List (ℕ × Batch)) (joiner : Joining) (n address : ℕ)
    → slice_get statuses n ≡ Some (Claimed address) → AreParts plan pieces statuses transit joiner
    → AreParts plan pieces (set statuses n Finished) transit (with_closed joiner n)
parts_finished plan pieces statuses transit joiner n address at parts = record {
  pieces_are = parts.pieces_are;
  each = length-set statuses n Finished ∙ parts.each;
  names_are = parts.names_are;
  room_is = parts.room_is;
  closed = λ k. closed k (same_or_not k n);
  known = λ b among. subst (λ m. b.0 < m) (sym (length-set statuses n Finished)) (parts.known b among);
}
  where
    closed : (k : ℕ) → (k ≡ n) ⊎ (k ≡ n → ⊥) → get (insert joiner.pieces n true) k ≡ option_map is_finished (slice_get (set statuses n Finished) k)
    closed k (inl e) =
        get-insert nat_cmp_total joiner.pieces n true k
        ∙ ap (λ b. cond b (Some true) (get joiner.pieces k)) (ap (λ i. eq_by_cmp nat_cmp i n) e ∙ ap is_eq (tied_itself nat_cmp_total n))
        ∙ sym (ap (λ i. option_map is_finished (slice_get (set statuses n Finished) i)) e
        ∙ ap (option_map is_finished) (set_same statuses n Finished (slice_get_within statuses n (Claimed address) at)))
    closed k (inr apart) =
        get-insert nat_cmp_total joiner.pieces n true k
        ∙ ap (λ b. cond b (Some true) (get joiner.pieces k)) (unsigned_tied k n ∙ ne_eqb k n apart)
        ∙ parts.closed k ∙ ap (option_map is_finished) (sym (set_other statuses n k Finished apart))
