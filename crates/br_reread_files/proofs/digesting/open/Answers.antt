use Rattle.std.proofs.Common.{List, ◌++◌, ap, ◌∙◌}
use Rattle.std.proofs.lemmas.Result.{err_from_is_err_and}
use Rattle.br_model.specs.Meaning.{Hit}
use Rattle.br_reread_parts.proofs.WindowLaws.{given_both}
use Rattle.br_reread_files.specs.FileHits.{digested, unread}
use Rattle.br_reread_files.proofs.DigestingLaws.{window_read}
use Rattle.br_reread_files.proofs.GivenLaws.{fault_again}
use Rattle.br_reread_files.proofs.digesting.open.Goals as goal

pub returns-in_err-ahead-clause-changed : goal.returns-in_err-ahead-clause-changed
returns-in_err-ahead-clause-changed g c =
    let first = c.cut_window-first.result in
    let p = err_from_is_err_and c.from_residual.result c.from_residual.ensures.1 in
    rw (p.1, p.2)
    (λ is given.
    c.in_err-ahead.ensures.changed (fault_again _ _ is)
    (given_both c.args.many.now (unread c.args.file.now) first.window.now first.rest.now (c.cut_window-first.ensures.joined ∙ c.unread.ensures) given).0)

pub returns-clause-read : goal.returns-clause-read
returns-clause-read g c =
    let ahead = c.in_ok-ahead.ahead in
    let first = c.cut_window-first.result in
    let taken = c.in_ok-take_ahead.ensures in
    window_read c.args.many.now (digested c.args.file.now) (unread c.args.file.now) first.window.now first.rest.now ahead _
    (c.cut_window-first.ensures.joined ∙ c.unread.ensures) c.in_ok-ahead.ensures.read taken.read
    (taken.hits ∙ ap (λ (hs : List Hit). hs ++ ahead.hits.items) c.in_ok-begun.ensures.hits)
