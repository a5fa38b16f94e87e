use Rattle.std.proofs.Common.{rules, refl, ◌≡◌, ◌∙◌, ap, pos, to_z, of_z, w64}
use Rattle.std.proofs.Math.Facts.{to_z-of_z}
use Rattle.sqlite.specs.Held.{state}
use Rattle.br_store.specs.Held.{layout_in}
use Rattle.br_model.specs.Name.{SessionKey}
use Rattle.br_model.specs.Job.{JobRow}
use Rattle.br_store.proofs.Inserts.{puts_job}
use Rattle.br_store.proofs.Writes.{wrote_job_as}
use Rattle.br_store.proofs.Fresh.{new_job}
use Rattle.br_store.proofs.job_writing.put_job_row.Goals as goal

pub returns-clause-added : goal.returns-clause-added
returns-clause-added g c clean inside tables is_client is_fileset =
    let i = c.job.inside in
    let old = state g.S.Store c.args.tx.now.conn.now in
    let new = state g.S.Store c.execute.new.self.conn.now in
    let same : to_z w64 (of_z w64 c.in-Ok.start) ≡ pos i.start = search (rules, to_z-of_z) in
    let ran = rw (c.to_sql.ensures, c.to_sql-2.ensures, c.to_sql-3.ensures, c.to_sql-4.ensures, c.to_sql-5.ensures, same) at (c.in_ok-execute.ensures.runs clean inside) in
    let ids = c.get.ensures.same ∙ ap (λ (j : JobRow). j.id) c.job.view_is in
    let session = ap (λ (s : SessionKey). s.id) (c.session.view_is ∙ c.requires.session) in
    let time = ap (λ (s : SessionKey). s.time) (c.session.view_is ∙ c.requires.session) in
    let added = puts_job old.now.schema (layout_in old.now.trees) tables.own tables.schema old new (pos c.get.result) (pos c.args.client) (pos i.start) (pos c.args.fileset) (pos c.session.inside.id) (pos c.session.inside.time) c.args.letters.now.kind.now c.args.letters.now.level.now c.args.letters.now.status.now c.in_ok-execute.field-0 refl ran.0 in (
      wrote_job_as c.args.job.now c.get.result c.args.client c.args.fileset i.start c.session.inside.id c.session.inside.time c.args.letters.now.kind.now c.args.letters.now.level.now c.args.letters.now.status.now old new
          ids (ap (λ (j : JobRow). j.start) c.job.view_is) session time c.requires.kind c.requires.level c.requires.status tables ran.1 is_client is_fileset added.0 added.1,
      new_job c.args.job.now c.get.result c.args.client c.args.fileset i.start c.session.inside.id c.session.inside.time c.args.letters.now.kind.now c.args.letters.now.level.now c.args.letters.now.status.now old.now new.now ids session time tables added.0 added.1,
    )
