use Rattle.std.proofs.lemmas.Result.{err_from_is_err_and}
use Rattle.br_data.proofs.GoOnLaws.{go_itself, go_more}
use Rattle.br_reread_files.proofs.GivenLaws.{fault_again}
use Rattle.br_reread_files.proofs.RunLaws.{runs_kept}
use Rattle.br_reread_files.proofs.file_pairs.make_left.Goals as goal

pub loop-alloc-init : goal.loop-alloc-init
loop-alloc-init g c = record { on = go_itself c.args.many.now; first = λ given first. first }

pub loop-alloc-preserved : goal.loop-alloc-preserved
loop-alloc-preserved g c =
    let before = c.loop-alloc.invariant in record {
      on = go_more _ _ _ before.on c.make_next.ensures.on;
      first = λ given first.
          c.make_next.ensures.first (runs_kept c.standing_stays.ensures c.args.many.now c.loop-alloc.many c.args.runs.now before.on given) (before.first given first);
    }

pub returns-in_err-make_next-clause-first : goal.returns-in_err-make_next-clause-first
returns-in_err-make_next-clause-first g c = λ given first.
    c.make_next.ensures.first (runs_kept c.standing_stays.ensures c.args.many.now c.loop-alloc.many c.args.runs.now c.loop-alloc.invariant.on given)
    (c.loop-alloc.invariant.first given first)

pub returns-in_err-make_next-clause-changed : goal.returns-in_err-make_next-clause-changed
returns-in_err-make_next-clause-changed g c =
    let p = err_from_is_err_and c.from_residual.result c.from_residual.ensures.1 in
    rw (p.1, p.2)
    (λ is given.
    c.in_err-make_next.ensures.changed (fault_again _ _ is)
    (runs_kept c.standing_stays.ensures c.args.many.now c.loop-alloc.many c.args.runs.now c.loop-alloc.invariant.on given))
