use Rattle.std.proofs.Common.{List, ◌++◌, ap, sym, ◌∙◌}
use Rattle.br_model.specs.Meaning.{Hit}
use Rattle.br_join.specs.Plain.{plain_bytes}
use Rattle.br_records.specs.Records.{fragments}
use Rattle.std.proofs.lemmas.Result.{err_from_is_err_and}
use Rattle.br_reread_parts.proofs.WindowLaws.{given_both}
use Rattle.br_reread_files.proofs.DigestingLaws.{window_read}
use Rattle.br_reread_files.proofs.GivenLaws.{fault_again}
use Rattle.br_reread_files.proofs.digesting.read_on.Goals as goal

pub take_ahead-requires-clause-digested : goal.take_ahead-requires-clause-digested
take_ahead-requires-clause-digested g c =
    c.in_ok-ahead.ensures.digested ∙ c.requires ∙ ap (λ (hs : List Hit). plain_bytes (fragments hs)) (sym c.digest_beside.ensures.hits)

pub returns-in_err-ahead-clause-changed : goal.returns-in_err-ahead-clause-changed
returns-in_err-ahead-clause-changed g c =
    let next = c.cut_window-next.result in
    let p = err_from_is_err_and c.from_residual.result c.from_residual.ensures.1 in
    rw (p.1, p.2)
    (λ is given.
    c.in_err-ahead.ensures.changed (fault_again _ _ is)
    (given_both c.args.many.now c.args.rest.now next.window.now next.rest.now c.cut_window-next.ensures.joined given).0)

pub returns-clause-read : goal.returns-clause-read
returns-clause-read g c =
    let ahead = c.in_ok-ahead.ahead in
    let taken = c.in_ok-take_ahead.ensures in
    window_read c.args.many.now c.args.begun.now.hits.items c.args.rest.now c.cut_window-next.result.window.now c.cut_window-next.result.rest.now ahead _
    c.cut_window-next.ensures.joined c.in_ok-ahead.ensures.read taken.read
    (taken.hits ∙ ap (λ (hs : List Hit). hs ++ ahead.hits.items) c.digest_beside.ensures.hits)
