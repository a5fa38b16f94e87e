use Rattle.std.specs.Prelude.{IfSome, OnOk}
use Rattle.br_pool.specs.Pool.{AreDrives}
use Rattle.br_cli_console.specs.ConsoleTasks.{RunsLast, session}
use Rattle.br_cli_console.proofs.left_session.run_left.Given as goal

-- the session so far, and drives for a further one
abbrev pub invariant-loop : goal.invariant-loop
invariant-loop g l = record {
  drives : AreDrives l.restore.drives.items;
  runs : RunsLast g.R.Read.remaining l.order (l.marks, l.fn.first.0)
      (session g.D.Drive g.W.Write g.M.Write g.S.Sink (l.fn.restore, l.fn.out) (l.restore, l.out)) l.run;
  flushed : OnOk l.run (g.W.Flush.is_flushed l.out.answers);
  apart : OnOk l.run (IfSome l.out.manifest g.M.Flush.is_flushed);
}
