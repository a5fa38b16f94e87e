use Rattle.std.proofs.Common.{◌≡◌, ap, subst}
use Rattle.std.specs.List.{All}
use Rattle.std.proofs.lemmas.Result.{err_from_is_err_and}
use Rattle.br_model.specs.Meaning.{Hit}
use Rattle.br_join.specs.Runs.{Run}
use Rattle.br_reread_files.specs.FileHits.{digested, unread}
use Rattle.br_reread_files.proofs.DigestingLaws.{all_of_file}
use Rattle.br_reread_files.proofs.FileHitsLaws.{given_of, joined_hits, same_of}
use Rattle.br_reread_files.proofs.GivenLaws.{fault_again}
use Rattle.br_reread_files.proofs.both_digested.files_by_two.Goals as goal

pub outcome_under-requires : goal.outcome_under-requires
outcome_under-requires g c =
    let file = c.one.inside.file in
    let whole = c.in_ok-read.ensures.one in (
      subst (λ (r : Run). All (λ (h : Hit). h.key ≡ r.key) c.in_ok-read.read.one.hits.items) c.one.view_is
          (all_of_file c.args.many.now c.one.inside.key (digested file) (unread file) file.hits c.in_ok-read.read.one (joined_hits file) c.one.invariant whole),
      whole.digested,
    )

pub outcome_under-requires-2 : goal.outcome_under-requires-2
outcome_under-requires-2 g c =
    let file = c.other.inside.file in
    let whole = c.in_ok-read.ensures.other in (
      subst (λ (r : Run). All (λ (h : Hit). h.key ≡ r.key) c.in_ok-read.read.other.hits.items) c.other.view_is
          (all_of_file c.args.many.now c.other.inside.key (digested file) (unread file) file.hits c.in_ok-read.read.other (joined_hits file) c.other.invariant whole),
      whole.digested,
    )

pub returns-clause-one : goal.returns-clause-one
returns-clause-one g c = λ given.
    c.in_ok-first.ensures
    (same_of c.args.many.now c.one.inside.file c.args.one.now.hits c.in_ok-read.read.one (ap (λ (r : Run). r.hits) c.one.view_is) c.in_ok-read.ensures.one given)

pub returns-clause-other : goal.returns-clause-other
returns-clause-other g c = λ given.
    c.in_ok-second.ensures
    (same_of c.args.many.now c.other.inside.file c.args.other.now.hits c.in_ok-read.read.other (ap (λ (r : Run). r.hits) c.other.view_is) c.in_ok-read.ensures.other given)

pub returns-in_err-read-clause-changed : goal.returns-in_err-read-clause-changed
returns-in_err-read-clause-changed g c =
    let p = err_from_is_err_and c.from_residual.result c.from_residual.ensures.1 in
    rw (p.1, p.2)
    (λ is one other.
    c.in_err-read.ensures.changed (fault_again _ _ is)
    (given_of c.args.many.now c.one.inside.file c.args.one.now.hits (ap (λ (r : Run). r.hits) c.one.view_is) one)
    (given_of c.args.many.now c.other.inside.file c.args.other.now.hits (ap (λ (r : Run). r.hits) c.other.view_is) other))
