use Rattle.std.proofs.Common.{Option, inr, subst}
use Rattle.std.specs.Prelude.{IfSome}
use Rattle.br_cli_console.specs.ConsoleTasks.{IsDamage, Prepared, PreparesBy, session}
use Rattle.br_cli_console.proofs.DamageLaws.{damage_unused, each_both}
use Rattle.br_cli_console.proofs.left_session.run_left.Goals as goal

pub loop-preserved : goal.loop-preserved
loop-preserved g c =
    let order = c.args.order in
    let marks = c.args.task.2.now in
    let so_far = session g.D.Drive g.W.Write g.M.Write g.S.Sink (c.args.restore.now, c.args.out.now) (c.loop.restore, c.loop.out) in
    let again = session g.D.Drive g.W.Write g.M.Write g.S.Sink (c.loop.restore, c.flush_outputs.new.out)
    (c.run_session-run-in-loop.new.restore, c.run_session-run-in-loop.new.out) in
    let ended : IsDamage c.loop.run = subst (λ (o : Option Prepared). IfSome o (λ (p : Prepared). IsDamage c.loop.run)) c.in-Some.is c.in_ok-left.ensures.why in
    let unused = damage_unused g.R.Read.remaining order (marks, c.args.first.0) so_far c.loop.run ended c.loop.invariant.runs in
    record {
      drives = rw c.run_session-run-in-loop.ensures.many c.loop.invariant.drives;
      runs =
          inr
          (record {
            prepared = c.in-Some.left;
            is = subst (λ (o : Option Prepared). IfSome o (PreparesBy order.0.now marks)) c.in-Some.is c.in_ok-left.ensures.paths;
            at = again.old;
            unused = record {
              has = unused.has;
              manifest = each_both so_far.old.manifest so_far.new.manifest again.old.manifest unused.manifest c.in_ok-flush_outputs.ensures.kept;
            };
            runs = c.run_session-run-in-loop.ensures.session;
          });
      flushed = c.run_session-run-in-loop.ensures.flushed;
      apart = c.run_session-run-in-loop.ensures.apart;
    }
