use Rattle.std.proofs.Common.{List, ap, ◌∙◌}
use Rattle.std.proofs.lemmas.Result.{err_from_is_err_and}
use Rattle.br_model.specs.Meaning.{Hit}
use Rattle.br_model.specs.Restored.{outcome_of}
use Rattle.br_records.specs.Records.{fragments}
use Rattle.br_reread_parts.proofs.GivenLaws.{hits_kept}
use Rattle.br_reread_files.specs.FileHits.{digested, unread}
use Rattle.br_reread_files.proofs.DigestingLaws.{all_of_file, whole_read}
use Rattle.br_reread_files.proofs.FileHitsLaws.{joined_hits}
use Rattle.br_reread_files.proofs.GivenLaws.{fault_again}
use Rattle.br_reread_files.proofs.digesting.plain_outcome_by.Goals as goal

pub finish-requires : goal.finish-requires
finish-requires g c =
    let file = c.args.file.now in
    let whole =
    whole_read c.standing_stays.ensures c.args.many.now _ (digested file) (unread file) _ _ _ c.open.ensures.on c.in_ok-opened.ensures.read
    c.in_ok-digest_rest.ensures.digested in
    (all_of_file c.args.many.now c.args.key (digested file) (unread file) file.hits _ (joined_hits file) c.requires whole, whole.digested)

pub returns-clause-made : goal.returns-clause-made
returns-clause-made g c = λ given.
    let file = c.args.file.now in
    let whole =
    whole_read c.standing_stays.ensures c.args.many.now _ (digested file) (unread file) _ _ _ c.open.ensures.on c.in_ok-opened.ensures.read
    c.in_ok-digest_rest.ensures.digested in
    c.in_ok-outcome.ensures ∙ ap (λ (hs : List Hit). outcome_of c.args.key (fragments hs)) (whole.same given ∙ joined_hits file)

pub returns-in_err-digest_rest-clause-changed : goal.returns-in_err-digest_rest-clause-changed
returns-in_err-digest_rest-clause-changed g c =
    let p = err_from_is_err_and c.from_residual-in_err-digest_rest.result c.from_residual-in_err-digest_rest.ensures.1 in
    rw (p.1, p.2)
    (λ is given.
    c.in_err-digest_rest.ensures.changed (fault_again _ _ is)
    (hits_kept c.standing_stays.ensures c.args.many.now _ _ c.open.ensures.on (c.in_ok-opened.ensures.read.given c.args.many.now given)))
