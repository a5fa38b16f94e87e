-- Volumes of whole blocks to which a session is written.
use Rattle.std.proofs.Common.{◌≡◌, ℕ, Bool, true, false, cond, List, [], ◌∷◌, ◌++◌, length, map, filter, Option, Some, None, option_map, refl, sym, ap, subst, ◌∙◌}
use Rattle.std.specs.Prelude.{flat_map, bytes_eq, unwrap_or, find}
use Rattle.std.specs.Option.{option_map_or}
use Rattle.std.specs.List.{AllByRecursion}
use Rattle.br_model.specs.Volume.{Volume, volume_bytes, AreLaid}
use Rattle.br_model.specs.Session.{Visit, visits, length_of}
use Rattle.br_model.specs.SessionHolds.{bytes_of_volume, bytes_for}
use Rattle.br_model.proofs.ListLaws.{all_append, all_filter}
use Rattle.br_model.proofs.SpanLaws.{everywhere}
use Rattle.br_model.proofs.WrittenVolumeLaws.{IsWholeBlock, joined, laid_at, whole_appended}
use Rattle.br_model.proofs.WrittenSpanLaws.{IsWholeVisit}
use Rattle.br_history.proofs.WholeVisitLaws.{written_visits}
use Rattle.br_history.specs.Committing.{VolumesStayWhole, WholeVolumesAreReady}

-- a block, with the name of its volume, is whole
abbrev IsWholeNamed : List ℕ × List ℕ → Type 0
IsWholeNamed b = IsWholeBlock b.1

-- blocks stay whole if each gets the name of its volume
named_are_whole : (volume : List ℕ) (blocks : List (List ℕ)) → AllByRecursion IsWholeBlock blocks → AllByRecursion IsWholeNamed (map (λ (block : List ℕ). (volume, block)) blocks)
named_are_whole volume [] whole = tt
named_are_whole volume (b ∷ bs) whole = (whole.0, named_are_whole volume bs whole.1)

visited_are_whole : (vs : List Visit) → AllByRecursion IsWholeVisit vs → AllByRecursion IsWholeNamed (flat_map (λ (v : Visit). map (λ (block : List ℕ). (v.volume, block)) v.blocks) vs)
visited_are_whole [] whole = tt
visited_are_whole (v ∷ vs) whole =
    all_append IsWholeNamed (map (λ (block : List ℕ). (v.volume, block)) v.blocks) (flat_map (λ (v : Visit). map (λ (block : List ℕ). (v.volume, block)) v.blocks) vs)
    (named_are_whole v.volume v.blocks whole.0.whole) (visited_are_whole vs whole.1)

-- and if they lose it
unnamed_are_whole : (bs : List (List ℕ × List ℕ)) → AllByRecursion IsWholeNamed bs → AllByRecursion IsWholeBlock (map (λ (b : List ℕ × List ℕ). b.1) bs)
unnamed_are_whole [] whole = tt
unnamed_are_whole (b ∷ bs) whole = (whole.0, unnamed_are_whole bs whole.1)

unnamed_joined : (bs : List (List ℕ × List ℕ)) → flat_map (λ (b : List ℕ × List ℕ). b.1) bs ≡ joined (map (λ (b : List ℕ × List ℕ). b.1) bs)
unnamed_joined [] = refl
unnamed_joined (b ∷ bs) = ap (λ (xs : List ℕ). b.1 ++ xs) (unnamed_joined bs)

pub volumes_stay_whole_lem : VolumesStayWhole
volumes_stay_whole_lem files key limit places starts written earlier later id_to time_to to is whole appended name =
    let old = bytes_of_volume earlier name in
    let is_for = λ (b : List ℕ × List ℕ). bytes_eq b.0 name in
    let all : AllByRecursion IsWholeNamed written.blocks = subst (λ (bs : List (List ℕ × List ℕ)). AllByRecursion IsWholeNamed bs) (sym is.placed)
    (visited_are_whole (visits places is.blocks) (written_visits files key limit places starts written id_to time_to to is)) in
    let new = map (λ (b : List ℕ × List ℕ). b.1) (filter is_for written.blocks) in
    let laid = whole_appended old (whole name).0 new (unnamed_are_whole (filter is_for written.blocks) (all_filter IsWholeNamed is_for written.blocks all)) (whole name).1 in
    let bytes : old ++ joined new ≡ bytes_of_volume later name = sym (appended name ∙ ap (λ (xs : List ℕ). old ++ xs) (unnamed_joined (filter is_for written.blocks))) in
    ((whole name).0 ++ laid_at (length old) new, subst (λ (xs : List ℕ). AreLaid xs None everywhere ((whole name).0 ++ laid_at (length old) new)) bytes laid)

-- the length of the first of two volumes, or of what is found among the others
length_or : (b : Bool) (v : Volume) (l : Option (List ℕ × ℕ)) (o : Option Volume)
    → option_map_or (λ (m : List ℕ × ℕ). m.1) l 0 ≡ length (unwrap_or (option_map (λ (w : Volume). w.bytes) o) [])
    → option_map_or (λ (m : List ℕ × ℕ). m.1) (cond b (Some (v.name, length v.bytes)) l) 0 ≡ length (unwrap_or (option_map (λ (w : Volume). w.bytes) (cond b (Some v) o)) [])
length_or true v l o e = refl
length_or false v l o e = e

-- the length that is told for a volume is its own
lengths_are : (volumes : List Volume) (name : List ℕ) → length_of (map (λ (v : Volume). (v.name, length v.bytes)) volumes) name ≡ length (bytes_of_volume volumes name)
unfolding volume_bytes
lengths_are [] name = refl
lengths_are (v ∷ vs) name =
    length_or (bytes_eq v.name name) v (find (λ (l : List ℕ × ℕ). bytes_eq l.0 name) (map (λ (w : Volume). (w.name, length w.bytes)) vs)) (find (λ (w : Volume). bytes_eq w.name name) vs)
    (lengths_are vs name)

pub whole_volumes_are_ready_lem : WholeVolumesAreReady
whole_volumes_are_ready_lem volumes name whole = record { blocks = (whole name).0; laid = (whole name).1; length_is = lengths_are volumes name }
