use Rattle.std.proofs.Common.{ap, sym, ◌∙◌}
use Rattle.std.proofs.lemmas.Result.{err_from_is_err_and}
use Rattle.br_model.specs.Block.{Header, read_header}
use Rattle.br_data.proofs.ReadLaws.{gone_on, length_read, none_if_refused}
use Rattle.br_data.proofs.reread_fragment.block_len.Goals as goal

pub returns-in_err-read_bytes-clause-gone : goal.returns-in_err-read_bytes-clause-gone
returns-in_err-read_bytes-clause-gone g c =
    let p = err_from_is_err_and c.from_residual.result c.from_residual.ensures.1 in
    rw (p.1, p.2) (gone_on _ _ _ c.in_err-read_bytes.field-0.0 c.in_err-read_bytes.ensures.gone)

pub returns-in-Ok-clause-length : goal.returns-in-Ok-clause-length
returns-in-Ok-clause-length g c =
    let shown = g.D.Drive.shows c.args.drive.now in
    rw (ap (λ (h : Header). h.size) c.head.view_is)
    (length_read shown c.args.vol.now c.args.addr c.read_bytes.new.buf.items c.in-Ok.head c.in_ok-read_bytes.ensures.first
    (ap read_header (sym c.deref.ensures.value) ∙ c.in-Ok.ensures.exact))

pub returns-in-Err-clause-gone : goal.returns-in-Err-clause-gone
returns-in-Err-clause-gone g c _ =
    let shown = g.D.Drive.shows c.args.drive.now in
    none_if_refused shown c.args.vol.now c.args.addr _ c.read_bytes.new.buf.items c.in_ok-read_bytes.ensures.first
    (ap read_header (sym c.deref.ensures.value) ∙ c.in-Err.ensures.exact)
