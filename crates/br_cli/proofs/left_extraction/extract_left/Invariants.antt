use Rattle.std.proofs.Common.{◌≡◌}
use Rattle.br_engine.specs.Restores.{seen}
use Rattle.br_pool.specs.Pool.{AreDrives}
use Rattle.br_cli.specs.BootstrapFiles.{whole_of}
use Rattle.br_cli.specs.ExtractTasks.{IsUnused}
use Rattle.br_cli.proofs.left_extraction.extract_left.Given as goal

-- nothing was written or put so far, and the extraction has the whole bootstrap that it began with
abbrev pub invariant-loop : goal.invariant-loop
invariant-loop g l = record {
  unused : IsUnused (seen g.D.Drive g.W.Write g.S.Sink (l.initial.restore, l.initial.writer)) (seen g.D.Drive g.W.Write g.S.Sink (l.restore, l.writer));
  drives : AreDrives l.restore.drives.items;
  whole : whole_of l.extraction.bootstrap ≡ whole_of l.initial.extraction.bootstrap;
  wanted : l.extraction.wanted ≡ l.initial.extraction.wanted;
}
