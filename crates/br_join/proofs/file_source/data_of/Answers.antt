use Rattle.std.proofs.Common.{◌+◌, List, ℕ, Ok, filter, drop, sym, ap, ◌∙◌}
use Rattle.std.proofs.lemmas.Result.{err_from_is_err_and}
use Rattle.br_model.specs.Answer.{refused_as}
use Rattle.br_model.specs.File.{fault, is_data}
use Rattle.br_join.specs.Data.{laid_from}
use Rattle.br_data.specs.BodyParts.{joined}
use Rattle.br_join.proofs.DataLaws.{laid_more, laid_given_up, laid_done, data_more, data_not, data_done}
use Rattle.br_join.proofs.file_source.data_of.Goals as goal
use Rattle.br_join.proofs.file_source.data_of.Goals.{then-is_data+in_ok-end, else-is_data}

pub returns-in_err-end : goal.returns-in_err-end
returns-in_err-end c =
    let r = c.record-item.result in
    let before = joined c.loop-record.file.items in
    let rest = filter is_data (drop (c.loop-record.record-index + 1) c.args.records.now) in
    let split = data_more c.args.records.now c.loop-record.record-index r c.loop-record-test.true c.record-item.is (sym c.is_data.ensures ∙ c.if-is_data.true) in
    let all = c.loop-record.invariant.lays ∙ ap (laid_from before) split in
    let p = err_from_is_err_and c.from_residual.result c.from_residual.ensures.1 in
    rw (p.1, p.2) (laid_given_up before r rest _ _ all c.in_err-end.ensures.same)

pub loop-record-preserved : goal.loop-record-preserved
loop-record-preserved c =
    let r = c.record-item.result in
    let before = joined c.loop-record.file.items in
    let rest = filter is_data (drop (c.loop-record.record-index + 1) c.args.records.now) in
    elim c.if-is_data.branch [
      | then-is_data+in_ok-end w ↦
          let split = data_more c.args.records.now c.loop-record.record-index r c.loop-record-test.true c.record-item.is (sym c.is_data.ensures ∙ w.if-is_data.true) in
          let more = laid_more before _ r rest w.in_ok-end.ensures.same in
          rw (w.file-is, w.end-is) (record { ends = w.in_ok-end.ensures.ends; lays = c.loop-record.invariant.lays ∙ ap (laid_from before) split ∙ more })
      | else-is_data w ↦
          let split = data_not c.args.records.now c.loop-record.record-index r c.loop-record-test.true c.record-item.is (sym c.is_data.ensures ∙ w.if-is_data.false) in
          rw (w.file-is, w.end-is) (record { ends = c.loop-record.invariant.ends; lays = c.loop-record.invariant.lays ∙ ap (laid_from before) split })
    ]

pub returns : goal.returns
returns c =
    let before = joined c.loop-record.file.items in
    ap (refused_as fault) (c.loop-record.invariant.lays ∙ ap (laid_from before) (data_done c.args.records.now c.loop-record.record-index c.loop-record-test.false) ∙ laid_done before)
    ∙ ap (λ (bytes : List ℕ). Ok bytes) (sym c.in_ok-bytes.ensures)
