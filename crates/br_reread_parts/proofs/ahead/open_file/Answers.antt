use Rattle.std.proofs.Common.{length, ap, ◌∙◌}
use Rattle.std.proofs.lemmas.Result.{err_from_is_err_and}
use Rattle.br_model.specs.File.{Item}
use Rattle.br_reread_parts.proofs.PutLaws.{err_again}
use Rattle.br_reread_parts.proofs.WindowLaws.{given_both, opens}
use Rattle.br_reread_parts.proofs.ahead.open_file.Goals as goal

pub returns-in_err-window-clause-changed : goal.returns-in_err-window-clause-changed
returns-in_err-window-clause-changed g c =
    let first = c.cut_window-first.result in
    let p = err_from_is_err_and c.from_residual.result c.from_residual.ensures.1 in
    rw (p.1, p.2)
    (λ is given.
    c.in_err-window.ensures.changed (err_again _ _ is)
    (given_both _ c.args.hits.now first.window.now first.rest.now c.cut_window-first.ensures.joined given).0)

pub returns-clause-opened : goal.returns-clause-opened
returns-clause-opened g c =
    let hits = c.args.hits.now in
    let first = c.cut_window-first.result in
    let joined = c.cut_window-first.ensures.joined in
    record {
      left = c.len.ensures ∙ ap (λ (i : Item). length i.bytes) c.item.view_is;
      given = λ later given. (given_both later hits first.window.now first.rest.now joined given).1;
      same = λ given.
          opens hits first.window.now first.rest.now _ joined (c.in_ok-window.ensures.same (given_both _ hits first.window.now first.rest.now joined given).0);
    }
