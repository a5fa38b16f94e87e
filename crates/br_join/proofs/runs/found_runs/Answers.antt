use Rattle.std.proofs.Common.{◌≡◌, ◌++◌, ◌∷◌, [], List, Some, map, refl, sym, ap, subst, ◌∙◌, append-nil}
use Rattle.std.specs.Prelude.{slice_get}
use Rattle.std.specs.List.{AllByRecursion}
use Rattle.std.specs.Option.{option_copied}
use Rattle.std.proofs.lemmas.List.{map-append}
use Rattle.br_model.specs.Meaning.{Hit}
use Rattle.br_model.specs.Name.{FileKey}
use Rattle.br_model.specs.Restored.{Restored, files_found}
use Rattle.br_model.proofs.ListLaws.{all_append}
use Rattle.br_records.specs.Runs.{listed}
use Rattle.br_join.proofs.FilesLaws.{behind_more, found_turn, none_found, part_behind}
use Rattle.br_records.proofs.FilesLaws.{none_left, listed_behind, more_files}
use Rattle.br_join.proofs.WholeLaws.{whole_behind, whole_first, whole_in_all, whole_run}
use Rattle.br_join.specs.Front.{hits_for}
use Rattle.br_join.specs.Runs.{IsPart, IsWholeRun, Run, file_of}
use Rattle.br_join.proofs.runs.found_runs.Goals as goal

pub loop-first-init : goal.loop-first-init
loop-first-init c = record {
  sorted = c.requires;
  behind = ([], refl);
  parts = subst (AllByRecursion (IsPart c.args.hits.now)) (sym c.new-runs.ensures.items) tt;
  whole = subst (AllByRecursion (IsWholeRun c.args.hits.now)) (sym c.new-runs.ensures.items) tt;
  left = whole_in_all c.args.hits.now c.args.hits.now;
  files = ap (λ xs. map file_of xs ++ files_found (listed c.args.hits.now)) c.new-runs.ensures.items;
}

pub loop-first-smaller : goal.loop-first-smaller
loop-first-smaller c =
    (found_turn c.loop-first.rest.now c.around.result.0.now c.around.result.1.now c.around.result.2.now c.in-Some.first.now c.first-in-Some.inside.key
    (sym c.first.ensures.value ∙ ap option_copied c.in-Some.is) (ap (λ (h : Hit). h.key) (sym c.first-in-Some.view_is))
    c.around.ensures.joined c.around.ensures.before c.around.ensures.of_key c.around.ensures.after).1

pub loop-first-preserved : goal.loop-first-preserved
loop-first-preserved c =
    let rest = c.loop-first.rest.now in
    let front = c.around.result.0.now in
    let mine = c.around.result.1.now in
    let behind = c.around.result.2.now in
    let joined = c.around.ensures.joined in
    let i = c.loop-first.invariant in
    let turn = found_turn rest front mine behind c.in-Some.first.now c.first-in-Some.inside.key
    (sym c.first.ensures.value ∙ ap option_copied c.in-Some.is) (ap (λ (h : Hit). h.key) (sym c.first-in-Some.view_is))
    joined c.around.ensures.before c.around.ensures.of_key c.around.ensures.after in
    let run : Run = c.new.result in
    let mine_is : mine ≡ hits_for c.first-in-Some.inside.key rest = whole_run c.first-in-Some.inside.key rest front mine behind joined c.around.ensures.before c.around.ensures.of_key c.around.ensures.after in
    let is_first : slice_get rest 0 ≡ Some c.in-Some.first.now = sym c.first.ensures.value ∙ ap option_copied c.in-Some.is in
    let key_is : c.in-Some.first.now.key ≡ c.first-in-Some.inside.key = ap (λ (h : Hit). h.key) (sym c.first-in-Some.view_is) in
    let pushed = c.in_ok-push.ensures.items in
    let joined_run : front ++ (run.hits ++ behind) ≡ rest = ap (λ (r : Run). front ++ (r.hits ++ behind)) c.new.ensures ∙ joined in
    let next : files_found (listed rest) ≡ file_of run ∷ files_found (listed behind) =
    turn.0 ∙ ap (λ (r : Run). file_of r ∷ files_found (listed behind)) (sym c.new.ensures) in record {
      sorted = listed_behind rest front mine behind joined i.sorted;
      behind = behind_more c.args.hits.now rest front mine behind i.behind joined;
      parts =
          subst (AllByRecursion (IsPart c.args.hits.now)) (sym pushed)
          (all_append (IsPart c.args.hits.now) c.loop-first.runs.items (run ∷ []) i.parts
          (part_behind c.args.hits.now rest front behind run i.behind joined_run, tt));
      whole =
          subst (AllByRecursion (IsWholeRun c.args.hits.now)) (sym pushed)
          (all_append (IsWholeRun c.args.hits.now) c.loop-first.runs.items (run ∷ []) i.whole (
            subst (IsWholeRun c.args.hits.now) (sym c.new.ensures)
                (mine_is ∙ ap (λ (k : FileKey). hits_for k rest) (sym key_is) ∙ sym (whole_first c.args.hits.now rest c.in-Some.first.now is_first i.left) ∙ ap (λ (k : FileKey). hits_for k c.args.hits.now) key_is),
            tt,
          ));
      left =
          whole_behind c.first-in-Some.inside.key c.args.hits.now rest front mine behind joined c.around.ensures.before c.around.ensures.of_key c.around.ensures.after
          i.left;
      files =
          more_files (map file_of c.loop-first.runs.items) (map file_of c.push.new.self.items) (file_of run) (files_found (listed rest)) (files_found (listed behind))
          (files_found (listed c.args.hits.now)) (ap (map file_of) pushed ∙ map-append file_of c.loop-first.runs.items (run ∷ [])) i.files next;
    }

pub returns-clause-files : goal.returns-clause-files
returns-clause-files c =
    let e : c.loop-first.rest.now ≡ [] = none_left c.loop-first.rest.now (sym c.first.ensures.value ∙ ap option_copied c.in_default.is) in
    sym (append-nil (map file_of c.loop-first.runs.items))
    ∙ ap (λ (xs : List Restored). map file_of c.loop-first.runs.items ++ xs) (sym none_found ∙ ap (λ (hs : List Hit). files_found (listed hs)) (sym e))
    ∙ c.loop-first.invariant.files

pub returns-clause-parts : goal.returns-clause-parts
returns-clause-parts c = c.loop-first.invariant.parts

pub returns-clause-whole : goal.returns-clause-whole
returns-clause-whole c = c.loop-first.invariant.whole
