use Rattle.br_data.specs.ManyDrives.{StayOn}
use Rattle.br_data.proofs.ManyLaws.{FailBelow}
use Rattle.br_data.proofs.reread_data.read_any.Given as goal

-- the drives went on, and each of those that were asked failed
abbrev pub invariant-loop-at : goal.invariant-loop-at
invariant-loop-at g l = record {
  stay : StayOn g.D.Drive.shows g.D.Drive.failures l.fn.drives.items l.drives.items;
  failed : FailBelow g.D.Drive.shows g.D.Drive.failures l.at l.fn.drives.items l.drives.items;
}
