use Rattle.std.proofs.lemmas.Result.{err_from_is_err_and}
use Rattle.br_data.proofs.ReadLaws.{gone_on}
use Rattle.br_data.proofs.reread_blocks.Again.fetch.Goals as goal

pub returns-in_err-read_again-clause-gone : goal.returns-in_err-read_again-clause-gone
returns-in_err-read_again-clause-gone g c =
    let p = err_from_is_err_and c.from_residual-in_err-read_again.result c.from_residual-in_err-read_again.ensures.1 in
    rw (p.1, p.2, ← c.place.view_is) (gone_on _ _ _ c.in_err-read_again.field-0.0 c.in_err-read_again.ensures.gone)
