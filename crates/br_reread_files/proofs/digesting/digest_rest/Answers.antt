use Rattle.std.proofs.Common.{List, ◌++◌, length, sym, ap, refl, ◌∙◌, eqb-true}
use Rattle.std.proofs.lemmas.Result.{err_from_is_err_and}
use Rattle.br_data.specs.KeptData.{Kept}
use Rattle.br_data.proofs.GoOnLaws.{go_itself, go_more}
use Rattle.br_reread_parts.specs.Windows.{data_bytes}
use Rattle.br_reread_files.proofs.DigestingLaws.{ends_read, more_read, none_read}
use Rattle.br_reread_files.proofs.GivenLaws.{fault_again}
use Rattle.br_reread_parts.proofs.GivenLaws.{hits_kept}
use Rattle.br_reread_parts.proofs.WindowLaws.{none_left}
use Rattle.br_reread_files.proofs.digesting.digest_rest.Goals as goal

pub loop-left-init : goal.loop-left-init
loop-left-init g c = record {
  on = go_itself c.args.many.now;
  read = none_read c.args.many.now c.args.rest.now c.args.begun.now c.requires;
}

pub returns-in_err-left-clause-changed : goal.returns-in_err-left-clause-changed
returns-in_err-left-clause-changed g c =
    let before = c.loop-left.invariant in
    let p = err_from_is_err_and c.from_residual.result c.from_residual.ensures.1 in
    rw (p.1, p.2)
    (λ is given.
    c.in_err-left.ensures.changed (fault_again _ _ is)
    (hits_kept c.standing_stays.ensures c.args.many.now c.loop-left.many c.loop-left.left.now before.on (before.read.given c.args.many.now given)))

pub loop-left-preserved : goal.loop-left-preserved
loop-left-preserved g c =
    let before = c.loop-left.invariant in record {
      on = go_more _ _ _ before.on c.read_on.ensures.on;
      read = more_read c.standing_stays.ensures _ _ _ _ _ _ _ _ before.on before.read c.in_ok-left.ensures.read;
    }

pub returns-clause-digested : goal.returns-clause-digested
returns-clause-digested g c =
    ends_read c.args.many.now c.args.begun.now.hits.items c.args.rest.now c.loop-left.begun c.loop-left.left.now _
    (none_left c.loop-left.left.now (eqb-true (length c.loop-left.left.now) 0 (sym c.is_empty.ensures ∙ c.loop-left-test.false))) refl
    (c.in_ok-digest_window.ensures ∙ ap (λ (found : List Kept). c.loop-left.begun.reading ++ data_bytes found) c.deref.ensures.value)
    c.loop-left.invariant.read
