use Rattle.std.proofs.Common.{Err, ap}
use Rattle.br_keeper.specs.Keeping.{shelf_of}
use Rattle.br_cli_serve.proofs.DeskLaws.{refused_stays}
use Rattle.br_cli_serve.proofs.script.Script.commit.Goals as goal

pub returns-in-Err-clause-answers : goal.returns-in-Err-clause-answers
returns-in-Err-clause-answers g c =
    let shelf = shelf_of g.V.VolumeStore.holds g.V.VolumeStore.failures in
    let stays = ap (λ s. s.desk.keeper) c.refuse.ensures.same in (
      Err c.in-Err.fault,
      refused_stays g.C.JobStore.inserts g.C.JobStore.refuses shelf c.args.job c.args.self.now.desk.keeper c.commit.new.self.keeper c.refuse.new.self.desk.keeper
          c.in-Err.fault stays c.in-Err.ensures.commits,
      rw (← c.number.ensures) c.refuse.ensures.written,
    )
