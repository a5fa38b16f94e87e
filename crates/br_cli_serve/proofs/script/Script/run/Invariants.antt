use Rattle.std.proofs.Common.{◌-◌, ◌^◌}
use Rattle.br_cli_serve.specs.ScriptDeeds.{Does}
use Rattle.br_cli_serve.specs.ScriptKeeper.{IsOwn}
use Rattle.br_cli_serve.proofs.script.Script.run.Given as goal

abbrev pub invariant-loop-line : goal.invariant-loop-line
invariant-loop-line g l = record {
  own : IsOwn l.self.desk.session l.self.desk.keeper;
  does : Does g.C.JobStore.inserts g.C.JobStore.refuses g.V.VolumeStore.holds g.V.VolumeStore.failures l.self.desk.session l.initial.self.desk.keeper l.self.desk.keeper;
}

-- the turns that are left
abbrev pub decreases-loop-line : goal.decreases-loop-line
decreases-loop-line g l = 2 ^ 40 - l.lines.turns
