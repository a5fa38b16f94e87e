use Rattle.std.proofs.Common.{◌≡◌, ◌++◌, ◌∷◌, [], List, ℕ, map, sym, ap, subst, ◌∙◌, append-nil}
use Rattle.std.specs.FinMap.{entries}
use Rattle.std.specs.List.{AllByRecursion}
use Rattle.std.specs.Map.Iter.{deref_pair}
use Rattle.std.proofs.lemmas.List.{map-append}
use Rattle.std.proofs.lemmas.Map.Iter.{rest_more}
use Rattle.br_model.specs.Name.{FileKey}
use Rattle.br_model.specs.Block.{Fragment}
use Rattle.br_model.specs.Restored.{Restored, fragments_for, outcome_of, under_name}
use Rattle.br_model.proofs.ListLaws.{all_append}
use Rattle.br_records.specs.Runs.{listed}
use Rattle.br_records.proofs.FilesLaws.{fragments_in_run, more_files}
use Rattle.br_join.proofs.FilesLaws.{planned_of, planned_files_are}
use Rattle.br_join.proofs.WholeLaws.{whole_run}
use Rattle.br_join.specs.Runs.{IsPart, IsWholeRun, Run, file_of}
use Rattle.br_join.proofs.runs.planned_runs.Goals as goal

pub loop-key-init : goal.loop-key-init
loop-key-init c = record {
  parts = subst (AllByRecursion (IsPart c.args.hits.now)) (sym c.new-runs.ensures.items) tt;
  whole = subst (AllByRecursion (IsWholeRun c.args.hits.now)) (sym c.new-runs.ensures.items) tt;
  files =
      λ i. map file_of (c.new-runs.ensures.items i) ++ map (planned_of (listed c.args.hits.now)) ((c.into_iter-key-iterator.ensures.into_iter_gives ∙ c.iter-key-items.ensures) i);
}

pub loop-key-preserved : goal.loop-key-preserved
loop-key-preserved c =
    let hits = c.args.hits.now in
    let es = listed hits in
    let key = c.in-Some.key.now in
    let path = c.in-Some.path.now in
    let left = c.loop-key.key-iterator in
    let rest = c.next.new.self in
    let front = c.around.result.0.now in
    let behind = c.around.result.2.now in
    let around = c.around.ensures in
    let run : Run = c.new.result in
    let pushed = c.in_ok-push.ensures.items in
    let mine : fragments_for key es ≡ _ = fragments_in_run key hits front c.around.result.1.now behind around.joined around.before around.of_key around.after in
    let file : file_of run ≡ planned_of es (key, path) =
    ap file_of c.new.ensures ∙ ap (λ (fs : List Fragment). record { key = key; outcome = under_name path (outcome_of key fs) }) (sym mine) in
    let next : map (planned_of es) left ≡ file_of run ∷ map (planned_of es) rest =
    ap (map (planned_of es)) (rest_more deref_pair left rest c.next.result (c.in-Some.key, c.in-Some.path) c.in-Some.is c.next.ensures.steps)
    ∙ ap (λ (f : Restored). f ∷ map (planned_of es) rest) (sym file) in record {
      parts =
          subst (AllByRecursion (IsPart hits)) (sym pushed)
          (all_append (IsPart hits) c.loop-key.runs.items (run ∷ []) c.loop-key.invariant.parts
          (record { before = front; after = behind; joined = ap (λ (r : Run). front ++ (r.hits ++ behind)) c.new.ensures ∙ around.joined }, tt));
      whole =
          subst (AllByRecursion (IsWholeRun hits)) (sym pushed)
          (all_append (IsWholeRun hits) c.loop-key.runs.items (run ∷ []) c.loop-key.invariant.whole
          (subst (IsWholeRun hits) (sym c.new.ensures) (whole_run key hits front c.around.result.1.now behind around.joined around.before around.of_key around.after), tt));
      files =
          more_files (map file_of c.loop-key.runs.items) (map file_of c.push.new.self.items) (file_of run) (map (planned_of es) left) (map (planned_of es) rest)
          (map (planned_of es) (entries c.args.names.now)) (ap (map file_of) pushed ∙ map-append file_of c.loop-key.runs.items (run ∷ [])) c.loop-key.invariant.files next;
    }

pub returns-clause-files : goal.returns-clause-files
returns-clause-files c =
    let es = listed c.args.hits.now in
    let none : c.loop-key.key-iterator ≡ [] = c.in-None.ensures.steps.0 in
    sym (append-nil (map file_of c.loop-key.runs.items))
    ∙ ap (λ (left : List (FileKey × List ℕ)). map file_of c.loop-key.runs.items ++ map (planned_of es) left) (sym none)
    ∙ c.loop-key.invariant.files ∙ sym (planned_files_are es c.args.names.now)

pub returns-clause-parts : goal.returns-clause-parts
returns-clause-parts c = c.loop-key.invariant.parts

pub returns-clause-whole : goal.returns-clause-whole
returns-clause-whole c = c.loop-key.invariant.whole
