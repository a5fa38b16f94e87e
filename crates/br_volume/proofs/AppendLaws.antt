-- What appending makes of the volumes that are looked up.
use Rattle.std.proofs.Common.{◌≡◌, ℕ, true, false, cond, Option, Some, None, List, [], ◌∷◌, ◌++◌, refl, ap, sym, subst, ◌∙◌, inl, inr, append_assoc, append-nil, take, drop, take-append-drop}
use Rattle.std.specs.Prelude.{bytes_eq, flat_map, filter, unwrap_or}
use Rattle.std.proofs.lemmas.List.Elements.{filter-append}
use Rattle.std.proofs.lemmas.Slice.Eq.{bytes_eq-Decides}
use Rattle.br_model.specs.Volume.{Volume, volume_bytes, Extends}
use Rattle.br_model.specs.SessionHolds.{bytes_of_volume, bytes_for, AreAppended}
use Rattle.br_fs.proofs.AppendLaws.{appended_is, turned}
use Rattle.br_volume.specs.Drive.{OnlyGrows}
use Rattle.br_volume.specs.Store.{IsAppended, IsAppendedInPart, AppendsTo, AppendsInPartTo, AreAppendedInTurn, AppendsAddUp}
use Rattle.br_volume.specs.MemStore.{Stored, FailsInPart}
use Rattle.br_volume.proofs.ExtendLaws.{extends_itself, extends_more}

-- an append that was made to fail appends the first of its bytes, or nothing
pub failed_in_part : (volume bytes : List ℕ) (earlier later : Stored) → FailsInPart volume bytes earlier later
    → IsAppendedInPart volume bytes earlier.volumes later.volumes
failed_in_part volume bytes earlier later (inl part) =
    let kept = earlier.bytes_kept in
    inr
    (take kept bytes, drop kept bytes, take-append-drop kept bytes, appended_is volume (take kept bytes) earlier.volumes later.volumes (ap (λ (s : Stored). s.volumes) part))
failed_in_part volume bytes earlier later (inr none) = inl (ap (λ (s : Stored). s.volumes) none)

-- each volume goes on from what it was
pub appended_extends : (volume bytes : List ℕ) (earlier later : List Volume) → IsAppended volume bytes earlier later → Extends later earlier
appended_extends volume bytes earlier later is name own e =
    elim (bytes_eq name volume) as (λ b. bytes_eq name volume ≡ b → volume_bytes later name ≡ cond b (Some (bytes_of_volume earlier volume ++ bytes)) (volume_bytes earlier name)
    → (more : List ℕ) × (volume_bytes later name ≡ Some (own ++ more))) [
      | true ↦ λ same now. (bytes, now ∙ ap (λ (o : Option (List ℕ)). Some (unwrap_or o [] ++ bytes)) (ap (volume_bytes earlier) (sym ((bytes_eq-Decides name volume).0 same)) ∙ e))
      | false ↦ λ other now. ([], now ∙ e ∙ ap (λ (bs : List ℕ). Some bs) (sym (append-nil own)))
    ] refl (is name)

-- if they are told, the volumes only grow
pub append_grows : (volume bytes : List ℕ) (earlier later : Option (List Volume)) → AppendsTo volume bytes earlier later → OnlyGrows earlier later
append_grows volume bytes None None h = tt
append_grows volume bytes (Some earlier) (Some later) h = appended_extends volume bytes earlier later h
append_grows volume bytes None (Some later) h = h
append_grows volume bytes (Some earlier) None h = h

pub part_extends : (volume bytes : List ℕ) (earlier later : List Volume) → IsAppendedInPart volume bytes earlier later → Extends later earlier
part_extends volume bytes earlier later (inl same) = rw same (extends_itself earlier)
part_extends volume bytes earlier later (inr part) = appended_extends volume part.0 earlier later part.3

pub part_grows : (volume bytes : List ℕ) (earlier later : Option (List Volume)) → AppendsInPartTo volume bytes earlier later → OnlyGrows earlier later
part_grows volume bytes None None h = tt
part_grows volume bytes (Some earlier) (Some later) h = part_extends volume bytes earlier later h
part_grows volume bytes None (Some later) h = h
part_grows volume bytes (Some earlier) None h = h

flat_of_both : (f : List ℕ × List ℕ → List ℕ) (xs ys : List (List ℕ × List ℕ)) → flat_map f (xs ++ ys) ≡ flat_map f xs ++ flat_map f ys
flat_of_both f [] ys = refl
flat_of_both f (x ∷ xs) ys = ap (λ (l : List ℕ). f x ++ l) (flat_of_both f xs ys) ∙ sym (append_assoc (f x) (flat_map f xs) (flat_map f ys))

for_both : (xs ys : List (List ℕ × List ℕ)) (name : List ℕ) → bytes_for (xs ++ ys) name ≡ bytes_for xs name ++ bytes_for ys name
for_both xs ys name =
    ap (flat_map (λ b. b.1)) (filter-append (λ b. bytes_eq b.0 name) xs ys)
    ∙ flat_of_both (λ b. b.1) (filter (λ b. bytes_eq b.0 name) xs) (filter (λ b. bytes_eq b.0 name) ys)

-- no blocks are appended if nothing is changed
pub none_appended : (vs : List Volume) → AreAppended [] vs vs
none_appended vs name = sym (append-nil (bytes_of_volume vs name))

-- blocks one after the other
pub both_appended : (xs ys : List (List ℕ × List ℕ)) (first second third : List Volume)
    → AreAppended xs first second → AreAppended ys second third → AreAppended (xs ++ ys) first third
both_appended xs ys first second third one two name =
    two name ∙ ap (λ (bs : List ℕ). bs ++ bytes_for ys name) (one name)
    ∙ append_assoc (bytes_of_volume first name) (bytes_for xs name) (bytes_for ys name)
    ∙ ap (λ (bs : List ℕ). bytes_of_volume first name ++ bs) (sym (for_both xs ys name))

for_one : (volume bytes name : List ℕ) → bytes_for ((volume, bytes) ∷ []) name ≡ cond (bytes_eq name volume) bytes []
for_one volume bytes name =
    rw (turned name volume)
    (elim (bytes_eq volume name) as (λ b. flat_map (λ (k : List ℕ × List ℕ). k.1) (cond b ((volume, bytes) ∷ []) []) ≡ cond b bytes []) [ true ↦ append-nil bytes | false ↦ refl ])

-- one block
pub one_appended : (volume bytes : List ℕ) (earlier later : List Volume) → IsAppended volume bytes earlier later → AreAppended ((volume, bytes) ∷ []) earlier later
one_appended volume bytes earlier later is name =
    elim (bytes_eq name volume) as (λ b. bytes_eq name volume ≡ b → volume_bytes later name ≡ cond b (Some (bytes_of_volume earlier volume ++ bytes)) (volume_bytes earlier name)
    → bytes_of_volume later name ≡ bytes_of_volume earlier name ++ cond b bytes []) [
      | true ↦ λ same now. ap (λ (o : Option (List ℕ)). unwrap_or o []) now ∙ ap (λ (n : List ℕ). bytes_of_volume earlier n ++ bytes) (sym ((bytes_eq-Decides name volume).0 same))
      | false ↦ λ other now. ap (λ (o : Option (List ℕ)). unwrap_or o []) now ∙ sym (append-nil (bytes_of_volume earlier name))
    ] refl (is name)
    ∙ ap (λ (bs : List ℕ). bytes_of_volume earlier name ++ bs) (sym (for_one volume bytes name))

-- blocks in turn
turn_appends : (blocks : List (List ℕ × List ℕ)) (earlier later : List Volume) → AreAppendedInTurn blocks earlier later → AreAppended blocks earlier later
turn_appends [] earlier later same = rw same (none_appended earlier)
turn_appends (b ∷ bs) earlier later h =
    both_appended (b ∷ []) bs earlier h.0 later (one_appended b.0 b.1 earlier h.0 h.1) (turn_appends bs h.0 later h.2)

turn_extends : (blocks : List (List ℕ × List ℕ)) (earlier later : List Volume) → AreAppendedInTurn blocks earlier later → Extends later earlier
turn_extends [] earlier later same = rw same (extends_itself earlier)
turn_extends (b ∷ bs) earlier later h =
    extends_more earlier h.0 later (turn_extends bs h.0 later h.2) (appended_extends b.0 b.1 earlier h.0 h.1)

-- some blocks in turn, and one more
pub in_turn_more : (blocks : List (List ℕ × List ℕ)) (block : List ℕ × List ℕ) (earlier middle later : List Volume) → AreAppendedInTurn blocks earlier middle
    → IsAppended block.0 block.1 middle later → AreAppendedInTurn (blocks ++ block ∷ []) earlier later
in_turn_more [] block earlier middle later is one = (later, subst (λ (m : List Volume). IsAppended block.0 block.1 m later) is one, refl)
in_turn_more (b ∷ bs) block earlier middle later is one = (is.0, is.1, in_turn_more bs block is.0 middle later is.2 one)

pub appends_add_up_lem : AppendsAddUp
appends_add_up_lem blocks earlier later h = (turn_appends blocks earlier later h, turn_extends blocks earlier later h)
