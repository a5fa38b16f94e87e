use Rattle.std.proofs.lemmas.Result.{err_from_is_err_and}
use Rattle.br_data.proofs.GoOnLaws.{go_itself, go_more}
use Rattle.br_reread_parts.proofs.GivenLaws.{hits_kept}
use Rattle.br_reread_files.proofs.DigestingLaws.{more_read, none_read}
use Rattle.br_reread_files.proofs.GivenLaws.{fault_again}
use Rattle.br_reread_files.proofs.both_digested.digest_while_both.Goals as goal

pub loop-alloc-init : goal.loop-alloc-init
loop-alloc-init g c = record {
  on = go_itself c.args.many.now;
  one = none_read c.args.many.now c.args.rest.one.now c.args.one.now c.requires.one;
  other = none_read c.args.many.now c.args.rest.other.now c.args.other.now c.requires.other;
}

pub loop-alloc-preserved : goal.loop-alloc-preserved
loop-alloc-preserved g c =
    let before = c.loop-alloc.invariant in record {
      on = go_more _ _ _ before.on c.read_both_on.ensures.on;
      one = more_read c.standing_stays.ensures _ _ _ _ _ _ _ _ before.on before.one c.in_ok-left.ensures.one;
      other = more_read c.standing_stays.ensures _ _ _ _ _ _ _ _ before.on before.other c.in_ok-left.ensures.other;
    }

pub returns-in_err-left-clause-changed : goal.returns-in_err-left-clause-changed
returns-in_err-left-clause-changed g c =
    let before = c.loop-alloc.invariant in
    let first = c.args.many.now in
    let p = err_from_is_err_and c.from_residual.result c.from_residual.ensures.1 in
    rw (p.1, p.2)
    (λ is one other.
    c.in_err-left.ensures.changed (fault_again _ _ is)
    (hits_kept c.standing_stays.ensures first c.loop-alloc.many c.loop-alloc.left.one.now before.on (before.one.given first one))
    (hits_kept c.standing_stays.ensures first c.loop-alloc.many c.loop-alloc.left.other.now before.on (before.other.given first other)))
