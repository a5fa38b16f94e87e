use Rattle.std.proofs.Common.{ap, ◌∙◌, subst, arith}
use Rattle.std.proofs.lemmas.Result.{on_ok_weaker}
use Rattle.sqlite.specs.Held.{state}
use Rattle.sqlite.specs.State.{HasCleanDisk}
use Rattle.br_model.specs.Job.{JobRow}
use Rattle.br_store.specs.declared.name_numbers.Dictionary.TheVariants.{Client, FileSet}
use Rattle.br_catalog_rows.specs.Rows.{with_job}
use Rattle.br_catalog_rows.specs.Inserted.{IsNewIn}
use Rattle.br_store.specs.Held.{IsName}
use Rattle.br_store.proofs.Writes.{wrote_after}
use Rattle.br_store.proofs.job_writing.put_job.Goals as goal

pub returns-clause-added : goal.returns-clause-added
returns-clause-added g c clean inside tables =
    let j = c.args.job.now in
    let a = state g.S.Store c.args.tx.now.conn.now in
    let b = state g.S.Store c.name_id.new.tx.conn.now in
    let d = state g.S.Store c.name_id-2.new.tx.conn.now in
    let z = state g.S.Store c.put_job_row.new.tx.conn.now in
    let clean_d : HasCleanDisk d = omega (arith, clean, c.put_job_row.ensures.survives.clean) in
    let clean_b : HasCleanDisk b = omega (arith, clean_d, c.name_id-2.ensures.survives.clean) in
    let first = c.in_ok-client.ensures.found clean_b inside tables in
    let second = c.in_ok-fileset.ensures.found clean_d first.0.mode first.0.tables in
    let client = subst (λ n. IsName d.now.trees Client n c.in_ok-client.client) (c.bytes.ensures.same ∙ ap (λ (r : JobRow). r.client) c.job.view_is) (second.0.names Client _ _ first.1) in
    let fileset = subst (λ n. IsName d.now.trees FileSet n c.in_ok-fileset.fileset) (c.bytes-2.ensures.same ∙ ap (λ (r : JobRow). r.fileset) c.job.view_is) second.1 in
    on_ok_weaker c.put_job_row.result (λ done.
    (wrote_after (with_job j) a b z first.0 (wrote_after (with_job j) b d z second.0 done.0), subst (IsNewIn j) (second.0.has ∙ first.0.has) done.1))
    (c.put_job_row.ensures.added clean second.0.mode second.0.tables client fileset)
