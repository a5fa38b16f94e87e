use Rattle.std.proofs.Common.{◌+◌, ◌≤◌, List, length, ap, subst, ◌∙◌, arith, map, rules}
use Rattle.std.proofs.lemmas.List.{take_all}
use Rattle.std.proofs.lemmas.List.FromFn.{length-enumerate_from}
use Rattle.std.specs.List.{AllByRecursion, enumerate_from}
use Rattle.br_model.specs.Session.{ToSave, file_row}
use Rattle.br_model.specs.SessionHolds.{IsToSave}
use Rattle.br_session.proofs.RecordLaws.{all_more}
use Rattle.br_history.proofs.SavingLaws.{row_more}
use Rattle.br_history.proofs.saved_job.saved_rows.Goals as goal

pub loop-file-preserved : goal.loop-file-preserved
loop-file-preserved c =
    let i = c.loop-file.file-index in
    record {
      number = omega arith;
      rows =
          c.in_ok-push.ensures.items
          ∙ row_more c.args.files.now i _ c.file-item.result c.loop-file.rows.items _ c.loop-file-test.true c.file-item.is (ap (λ n. n + 1) c.loop-file.invariant.number)
          c.loop-file.invariant.rows c.in_ok-saved_row.ensures.same;
      valid = all_more IsToSave c.args.files.now i c.file-item.result c.loop-file-test.true c.loop-file.invariant.valid (rw c.file-item.is at c.in_ok-saved_row.ensures.valid);
    }

pub returns-clause-same : goal.returns-clause-same
returns-clause-same c =
    let i = c.loop-file.file-index in
    let files = c.args.files.now in
    let end : length files ≤ i = search rules in
    c.loop-file.invariant.rows ∙ ap (map file_row) (take_all i (enumerate_from 1 files) (omega (arith, end, length-enumerate_from 1 files)))

pub returns-clause-valid : goal.returns-clause-valid
returns-clause-valid c =
    let i = c.loop-file.file-index in
    let files = c.args.files.now in
    let end : length files ≤ i = search rules in
    subst (λ (fs : List ToSave). AllByRecursion IsToSave fs) (take_all i files end) c.loop-file.invariant.valid
