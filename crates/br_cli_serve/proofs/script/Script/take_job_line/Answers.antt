use Rattle.std.proofs.Common.{◌∙◌, Ok}
use Rattle.std.specs.declared.io.Error.{Error}
use Rattle.br_keeper.specs.Keeping.{shelf_of}
use Rattle.br_history.specs.Drafting.{ended}
use Rattle.br_history.specs.declared.draft.Taken.TheVariants.{End}
use Rattle.br_cli_serve.specs.declared.script_fault.ScriptFault.{ScriptFault}
use Rattle.br_cli_serve.proofs.DeskLaws.{ends_clean}
use Rattle.br_cli_serve.proofs.script.Script.take_job_line.Goals as goal

pub returns-in_ok-end_job-in-Ok-End-clause-takes : goal.returns-in_ok-end_job-in-Ok-End-clause-takes
returns-in_ok-end_job-in-Ok-End-clause-takes g c =
    let shelf = shelf_of g.V.VolumeStore.holds g.V.VolumeStore.failures in
    let ends = rw c.number.ensures at c.in_ok-end_job-in-Ok-End.ensures.ends in (
      c.take.new.self,
      Ok End,
      rw c.in-Ok-End.field-0-is at c.in-Ok-End.ensures,
      (
        c.end_job.ensures.draft ∙ c.requires.taken,
        ends_clean g.C.JobStore.inserts g.C.JobStore.refuses Error ScriptFault shelf c.args.lines.now.number c.args.self.now.desk.keeper c.end_job.new.self.desk.keeper
            c.end_job.new.self.desk.session (g.W.Write.contents c.args.writer.now) (g.W.Write.contents c.end_job.new.writer) _ _ (ended c.take.new.self) ends,
      ),
    )
