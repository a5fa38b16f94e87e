-- The answers of commands that set or remove marks.
use Rattle.std.proofs.Common.{◌≡◌, ℕ, Bool, true, false, cond, List, map, filter, Option, Some, None, Result, Ok, Err, refl, ap, sym, subst, ◌∙◌}
use Rattle.std.specs.Prelude.{codes, bytes_eq, ◌++◌}
use Rattle.br_model.specs.Answer.{◌>>=◌, Answers, IsRefusal}
use Rattle.br_model.specs.Text.{is_empty}
use Rattle.br_model.specs.Order.{is_among}
use Rattle.br_model.specs.Name.{is_directory}
use Rattle.br_model.specs.Console as model
use Rattle.br_model.proofs.AnswerLaws.{ok_is}
use Rattle.br_tree.specs.Marking.{Marking, console_at, after_mark, newly_marked, after_unmark, newly_unmarked}
use Rattle.br_mark.specs.declared.answer.Answer.{Answer}
use Rattle.br_mark.specs.declared.fault.MarkFault.{MarkFault}
use Rattle.br_mark.specs.Fault.{cause}
use Rattle.br_mark.specs.Seen.{answer_said, count_answer}

-- ---- what is meant is refused with 57 alone

abbrev pub OnlyMissing : Result (List (List ℕ)) ℕ → Type 0
OnlyMissing (Ok paths) = Unit {0}
OnlyMissing (Err n) = n ≡ 57

some_only : (xs : List (List ℕ)) → OnlyMissing (model.some_of xs)
some_only xs = go (is_empty xs)
  where
    go : (b : Bool) → OnlyMissing (cond b (Err 57) (Ok xs))
    go true = refl
    go false = tt

pub meant_only : (paths : List (List ℕ)) (directory pattern : List ℕ) → OnlyMissing (model.meant paths directory pattern)
unfolding model.meant
meant_only paths directory pattern = go (model.some_of (model.matching paths directory pattern)) (some_only (model.matching paths directory pattern))
  where
    go : (r : Result (List (List ℕ)) ℕ) → OnlyMissing r → OnlyMissing (r >>= λ names. Ok (filter (model.is_meant directory names) paths))
    go (Ok names) only = tt
    go (Err n) only = only

pub meant_directories_only : (paths : List (List ℕ)) (directory : List ℕ) (pattern : Option (List ℕ)) → OnlyMissing (model.meant_directories paths directory pattern)
unfolding model.meant_directories
meant_directories_only paths directory None = some_only (filter (λ path. bytes_eq directory path) paths)
meant_directories_only paths directory (Some pattern) =
    some_only (filter (is_among (map (λ name. directory ++ name) (filter is_directory (model.matching paths directory pattern)))) paths)

-- ---- the answer

-- of what a call returns
abbrev pub AnswersAs : model.Console → Result Answer MarkFault → Result (model.Console × model.Answer) ℕ → Type 0
AnswersAs new result expected = Answers (λ (a : Answer). (new, answer_said a)) cause result expected

-- the call says what the count says
abbrev pub Counts : List ℕ → Option ℕ → Result Answer MarkFault → Type 0
Counts word count result = Answers answer_said cause result (count_answer word count)

some_answers : (word : List ℕ) (n : ℕ) (count : Option ℕ) (new : model.Console) (result : Result Answer MarkFault) → count ≡ Some n → Counts word count result
    → AnswersAs new result (Ok (new, model.Text (model.count_line n word)))
some_answers word n count new (Ok a) is said = go (answer_said a) (sym (ap (count_answer word) is) ∙ said)
  where
    go : (said : model.Answer) → ◌≡◌ {A = Result model.Answer ℕ} (Ok (model.Text (model.count_line n word))) (Ok said) → ◌≡◌ {A = Result (model.Console × model.Answer) ℕ} (Ok (new, model.Text (model.count_line n word))) (Ok (new, said))
    go said e = ap (λ s. Ok (new, s)) (ok_is (model.Text (model.count_line n word)) said e)
some_answers word n count new (Err e) is said = go (cause e) (subst (IsRefusal (cause e)) (ap (count_answer word) is) said)
  where
    go : (o : Option ℕ) → IsRefusal o (count_answer word (Some n)) → IsRefusal {Y = model.Console × model.Answer} o (Ok (new, model.Text (model.count_line n word)))
    go None said = tt
    go (Some k) said = absurd cc

none_answers : (word : List ℕ) (n : ℕ) (count : Option ℕ) (new : model.Console) (result : Result Answer MarkFault) → n ≡ 57 → count ≡ None → Counts word count result
    → AnswersAs new result (Err n)
none_answers word n count new (Ok a) only is said = absurd (go (answer_said a) (sym (ap (count_answer word) is) ∙ said))
  where
    go : (said : model.Answer) → ◌≡◌ {A = Result model.Answer ℕ} (Err 57) (Ok said) → ⊥
    go said e = cc
none_answers word n count new (Err e) only is said = go (cause e) (subst (IsRefusal (cause e)) (ap (count_answer word) is) said)
  where
    go : (o : Option ℕ) → IsRefusal o (count_answer word None) → IsRefusal {Y = model.Console × model.Answer} o (Err n)
    go None said = tt
    go (Some k) said = cc

-- paths are marked
pub mark_answers : (m : Marking) (directory : List ℕ) (r : Result (List (List ℕ)) ℕ) (new : Marking) (count : Option ℕ) (result : Result Answer MarkFault) → OnlyMissing r
    → count ≡ newly_marked m r → new ≡ after_mark m r → Counts (codes "marked") count result
    → AnswersAs (console_at directory new) result (r >>= λ paths. Ok (model.with_marks (console_at directory m) paths))
mark_answers m directory (Ok paths) new count result only is_count is_new said =
    let expected : Result (model.Console × model.Answer) ℕ = Ok (model.with_marks (console_at directory m) paths) in
    subst (λ (n : Marking). AnswersAs (console_at directory n) result expected) (sym is_new)
    (some_answers (codes "marked") _ count (console_at directory (after_mark m (Ok paths))) result is_count said)
mark_answers m directory (Err n) new count result only is_count is_new said = none_answers (codes "marked") n count (console_at directory new) result only is_count said

-- paths lose their marks
pub unmark_answers : (m : Marking) (directory : List ℕ) (r : Result (List (List ℕ)) ℕ) (new : Marking) (count : Option ℕ) (result : Result Answer MarkFault) → OnlyMissing r
    → count ≡ newly_unmarked m r → new ≡ after_unmark m r → Counts (codes "unmarked") count result
    → AnswersAs (console_at directory new) result (r >>= λ paths. Ok (model.without_marks (console_at directory m) paths))
unmark_answers m directory (Ok paths) new count result only is_count is_new said =
    let expected : Result (model.Console × model.Answer) ℕ = Ok (model.without_marks (console_at directory m) paths) in
    subst (λ (n : Marking). AnswersAs (console_at directory n) result expected) (sym is_new)
    (some_answers (codes "unmarked") _ count (console_at directory (after_unmark m (Ok paths))) result is_count said)
unmark_answers m directory (Err n) new count result only is_count is_new said = none_answers (codes "unmarked") n count (console_at directory new) result only is_count said
