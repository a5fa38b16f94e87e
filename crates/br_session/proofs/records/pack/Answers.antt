use Rattle.std.proofs.Common.{rules, ℕ, ◌+◌, ◌≤◌, List, [], map, length, ap, subst, ◌∙◌, arith, Vec, Global}
use Rattle.std.proofs.lemmas.Result.{IfOk-weaker}
use Rattle.br_model.specs.Record.{Record}
use Rattle.br_model.specs.Session.{ArePacked, session_records}
use Rattle.br_model.specs.SessionHolds.{IsToSave}
use Rattle.br_session.proofs.RecordLaws.{records_at, records_end, adds_all, files_step, all_more}
use Rattle.br_session.specs.Packing.{Packs}
use Rattle.br_session.proofs.records.pack.Goals as goal

pub loop-file-preserved : goal.loop-file-preserved
loop-file-preserved c =
    let i = c.loop-file.file-index in
    record {
      number = omega arith;
      adds = files_step _ _ _ _ c.args.files.now i c.index_of.result c.file-item.result c.loop-file-test.true (c.index_of.ensures ∙ ap (λ n. n + 1) c.loop-file.invariant.number) c.file-item.is c.loop-file.invariant.adds c.in_ok-add_file.ensures.records;
      valid = all_more IsToSave c.args.files.now i c.file-item.result c.loop-file-test.true c.loop-file.invariant.valid (rw c.file-item.is at c.in_ok-add_file.ensures.valid);
    }

pub returns-clause-packed : goal.returns-clause-packed
returns-clause-packed c =
    let files = c.args.files.now in
    let i = c.loop-file.file-index in
    let packer = c.loop-file.packer in
    let end : length files ≤ i = search rules in
    let adds = adds_all _ packer (session_records files) (records_at i files) c.loop-file.invariant.adds (records_end files i end) in
    let bytes = map {A = Vec ℕ Global} {B = List ℕ} (λ b. b.items) in
    IfOk-weaker c.finish.result (λ blocks. (records : List Record) → Packs packer records → ArePacked packer.limit packer.session records (bytes blocks.items))
    (λ blocks. ArePacked c.args.limit c.args.session (session_records files) (bytes blocks.items))
    (λ blocks packed.
    subst (λ l. ArePacked l c.args.session (session_records files) (bytes blocks.items)) (adds.limit ∙ c.in_ok-packer.ensures.limit)
    (subst (λ k. ArePacked packer.limit k (session_records files) (bytes blocks.items)) (adds.session ∙ c.in_ok-packer.ensures.session)
    (packed (session_records files) (adds.packs [] c.in_ok-packer.ensures.packs))))
    c.finish.ensures
