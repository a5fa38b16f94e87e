use Rattle.std.proofs.Common.{◌<◌, ◌^◌, ap, subst}
use Rattle.br_model.specs.Job.{JobRow}
use Rattle.br_model.specs.Name.{SessionKey}
use Rattle.br_catalog_rows.proofs.ReadLaws.{job_row_is}
use Rattle.br_catalog_rows.proofs.laws.job_is_whole.Goals as goal

pub returns : goal.returns
returns c =
    let n = c.numbers_fit.ensures in
    let w = c.are_words.ensures in
    let session = subst (λ (s : SessionKey). s.id < 2 ^ 32) (ap (λ (r : JobRow). r.session) c.row.view_is) c.session_fits.ensures.id in
    let time = subst (λ (s : SessionKey). s.time < 2 ^ 32) (ap (λ (r : JobRow). r.session) c.row.view_is) c.session_fits.ensures.time in
    job_row_is c.args.row.now n.least n.most w.kind w.level w.status n.start session time w.client w.fileset
