use Rattle.std.proofs.Common.{List, ◌++◌, ap, sym, ◌∙◌}
use Rattle.std.proofs.lemmas.Result.{err_from_is_err_and}
use Rattle.br_model.specs.Meaning.{Hit}
use Rattle.br_join.specs.Plain.{plain_bytes}
use Rattle.br_records.specs.Records.{fragments}
use Rattle.br_reread_parts.proofs.WindowLaws.{given_both}
use Rattle.br_reread_files.proofs.DigestingLaws.{window_read}
use Rattle.br_reread_files.proofs.GivenLaws.{fault_again}
use Rattle.br_reread_files.proofs.both_digested.read_both_on.Goals as goal

pub take_ahead-requires-clause-digested : goal.take_ahead-requires-clause-digested
take_ahead-requires-clause-digested g c =
    c.in_ok-ahead.ensures.digested_one ∙ c.requires.one ∙ ap (λ (hs : List Hit). plain_bytes (fragments hs)) (sym c.digest_both_beside.ensures.hits_one)

pub returns-in_err-ahead-clause-changed : goal.returns-in_err-ahead-clause-changed
returns-in_err-ahead-clause-changed g c =
    let first = c.cut_window-first.result in
    let second = c.cut_window-second.result in
    let p = err_from_is_err_and c.from_residual.result c.from_residual.ensures.1 in
    rw (p.1, p.2)
    (λ is one other.
    c.in_err-ahead.ensures.changed (fault_again _ _ is)
    (given_both c.args.many.now c.args.rest.now.one.now first.window.now first.rest.now c.cut_window-first.ensures.joined one).0
    (given_both c.args.many.now c.args.rest.now.other.now second.window.now second.rest.now c.cut_window-second.ensures.joined other).0)

pub returns-clause-one : goal.returns-clause-one
returns-clause-one g c =
    let ahead = c.in_ok-ahead.ahead.one in
    let taken = c.in_ok-take_ahead.ensures in
    window_read c.args.many.now c.args.one.now.hits.items c.args.rest.now.one.now c.cut_window-first.result.window.now c.cut_window-first.result.rest.now ahead
    c.take_ahead.new.begun c.cut_window-first.ensures.joined c.in_ok-ahead.ensures.one taken.read
    (taken.hits ∙ ap (λ (hs : List Hit). hs ++ ahead.hits.items) c.digest_both_beside.ensures.hits_one)

pub returns-clause-other : goal.returns-clause-other
returns-clause-other g c =
    let ahead = c.in_ok-ahead.ahead.other in
    let taken = c.in_ok-take_ahead-2.ensures in
    window_read c.args.many.now c.args.other.now.hits.items c.args.rest.now.other.now c.cut_window-second.result.window.now c.cut_window-second.result.rest.now ahead
    c.take_ahead-2.new.begun c.cut_window-second.ensures.joined c.in_ok-ahead.ensures.other taken.read
    (taken.hits ∙ ap (λ (hs : List Hit). hs ++ ahead.hits.items) c.digest_both_beside.ensures.hits_other)
