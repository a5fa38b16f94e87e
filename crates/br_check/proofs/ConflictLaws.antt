-- The lines of paths that conflict, one file after the other.
use Rattle.std.proofs.Common.{◌≡◌, ℕ, ◌+◌, ◌<◌, Bool, true, false, not, cond, List, [], ◌∷◌, ◌++◌, length, take, flat_map, map, get_or, refl, ap, sym, subst, ◌∙◌, append_assoc, append-nil, codes}
use Rattle.std.specs.List.{list_any}
use Rattle.std.proofs.lemmas.List.{take_more}
use Rattle.br_model.specs.Delivery.{in_the_way}
use Rattle.br_model.specs.Name.{FileKey}
use Rattle.br_types.specs.Newest.{Copy}
use Rattle.br_records.specs.Outline.{Outlined}
use Rattle.br_records.specs.ShownRecords.{outlined}
use Rattle.br_records.specs.declared.outline.Sketch.{Sketch}
use Rattle.br_types.specs.Conflicts.{IsFreeIn, Noted, Notes}
use Rattle.br_types.specs.declared.conflicts.Ways.{Ways}
use Rattle.br_check.specs.Conflicts.{TellsMore, Told, conflict_lines, conflicts_beside, lines_beside}
use Rattle.br_check.specs.Findings.{copies_at, copies_of, named_line}

-- ---- one copy

abbrev way : List (List ℕ) → Copy → Bool
way paths c = list_any (in_the_way c.path) paths

abbrev one_line : Copy → List ℕ
one_line c = named_line (codes "conflict") c

-- the lines from a copy on, if it conflicts with none of the paths, and if it does
free_first : (paths : List (List ℕ)) (c : Copy) (more : List Copy) → way paths c ≡ false → lines_beside paths (c ∷ more) ≡ lines_beside (c.path ∷ paths) more
free_first paths c more free = ap (λ b. flat_map one_line (cond b (c ∷ conflicts_beside paths more) (conflicts_beside (c.path ∷ paths) more))) free

left_first : (paths : List (List ℕ)) (c : Copy) (more : List Copy) → way paths c ≡ true → lines_beside paths (c ∷ more) ≡ one_line c ++ lines_beside paths more
left_first paths c more left = ap (λ b. flat_map one_line (cond b (c ∷ conflicts_beside paths more) (conflicts_beside (c.path ∷ paths) more))) left

not_true : (b : Bool) → true ≡ not b → b ≡ false
not_true true h = absurd cc
not_true false h = refl

not_false : (b : Bool) → false ≡ not b → b ≡ true
not_false true h = refl
not_false false h = absurd cc

-- the copies whose lines were appended, one more, and those that come after them
one_after : (told more : List Copy) (c : Copy) → told ++ c ∷ more ≡ (told ++ c ∷ []) ++ more
one_after told more c = sym (append_assoc told (c ∷ []) more)

-- a path that conflicts with none is noted
pub told_free : (ways later : Ways) (text longer : List ℕ) (c : Copy) (free : Bool) → IsFreeIn ways c.path free → (free ≡ true → Notes ways later c.path) → free ≡ true
    → longer ≡ text → TellsMore ways later text longer (c ∷ [])
told_free ways later text longer c free way_is notes is same = λ before told t.
    let none : way t.paths c ≡ false = not_true (way t.paths c) (sym is ∙ way_is t.paths t.noted) in
    record {
      paths = c.path ∷ t.paths;
      noted = notes is t.paths t.noted;
      lines = λ more.
          ap (λ (xs : List ℕ). xs ++ lines_beside (c.path ∷ t.paths) more) same ∙ sym (ap (λ (xs : List ℕ). text ++ xs) (free_first t.paths c more none))
          ∙ t.lines (c ∷ more) ∙ ap (λ (cs : List Copy). before ++ lines_beside [] cs) (one_after told more c);
    }

-- of one that does the line is appended
pub told_left : (ways later : Ways) (text longer : List ℕ) (c : Copy) (free : Bool) → IsFreeIn ways c.path free → later ≡ ways → free ≡ false
    → longer ≡ text ++ one_line c → TellsMore ways later text longer (c ∷ [])
told_left ways later text longer c free way_is same is line_is = λ before told t.
    let one : way t.paths c ≡ true = not_false (way t.paths c) (sym is ∙ way_is t.paths t.noted) in
    record {
      paths = t.paths;
      noted = subst (λ (w : Ways). Noted w t.paths) (sym same) t.noted;
      lines = λ more.
          ap (λ (xs : List ℕ). xs ++ lines_beside t.paths more) line_is ∙ append_assoc text (one_line c) (lines_beside t.paths more)
          ∙ sym (ap (λ (xs : List ℕ). text ++ xs) (left_first t.paths c more one)) ∙ t.lines (c ∷ more)
          ∙ ap (λ (cs : List Copy). before ++ lines_beside [] cs) (one_after told more c);
    }

-- ---- all copies

-- no line is appended for no copy
pub told_none : (ways : Ways) (text : List ℕ) → TellsMore ways ways text text []
told_none ways text = λ before told t. subst (λ (cs : List Copy). Told ways before text cs) (sym (append-nil told)) t

-- before the first
pub told_first : (ways : Ways) (text : List ℕ) → Noted ways [] → Told ways text text []
told_first ways text noted = record { paths = []; noted = noted; lines = λ more. refl }

map_both : {X Y : Type 0} (f : X → Y) (xs ys : List X) → map f (xs ++ ys) ≡ map f xs ++ map f ys
map_both f [] ys = refl
map_both f (x ∷ xs) ys = ap (λ (zs : List _). f x ∷ zs) (map_both f xs ys)

copies_both : (os more : List Outlined) → copies_of (os ++ more) ≡ copies_of os ++ copies_of more
copies_both [] more = refl
copies_both (o ∷ os) more = ap (λ (cs : List Copy). copies_at o ++ cs) (copies_both os more) ∙ sym (append_assoc (copies_at o) (copies_of os) (copies_of more))

-- the copies of one file more
copies_more : (ss : List (FileKey × Sketch)) (i : ℕ) (s : FileKey × Sketch) → i < length ss → get_or ss i s ≡ s
    → copies_of (map outlined (take (i + 1) ss)) ≡ copies_of (map outlined (take i ss)) ++ copies_at (outlined s)
copies_more ss i s less is =
    ap (λ (xs : List (FileKey × Sketch)). copies_of (map outlined xs)) (take_more ss i s less ∙ ap (λ (x : FileKey × Sketch). take i ss ++ x ∷ []) is)
    ∙ ap copies_of (map_both outlined (take i ss) (s ∷ [])) ∙ copies_both (map outlined (take i ss)) (outlined s ∷ [])
    ∙ ap (λ (cs : List Copy). copies_of (map outlined (take i ss)) ++ cs) (append-nil (copies_at (outlined s)))

-- one file more
pub told_next : (ways later : Ways) (before text longer : List ℕ) (ss : List (FileKey × Sketch)) (i : ℕ) (s : FileKey × Sketch) → i < length ss → get_or ss i s ≡ s
    → Told ways before text (copies_of (map outlined (take i ss))) → TellsMore ways later text longer (copies_at (outlined s))
    → Told later before longer (copies_of (map outlined (take (i + 1) ss)))
told_next ways later before text longer ss i s less is told more =
    subst (λ (cs : List Copy). Told later before longer cs) (sym (copies_more ss i s less is)) (more before (copies_of (map outlined (take i ss))) told)

-- after the last
pub told_all : (ways : Ways) (before text : List ℕ) (os : List Outlined) → Told ways before text (copies_of os) → text ≡ before ++ conflict_lines os
told_all ways before text os told =
    sym (append-nil text) ∙ told.lines [] ∙ ap (λ (cs : List Copy). before ++ lines_beside [] cs) (append-nil (copies_of os))
