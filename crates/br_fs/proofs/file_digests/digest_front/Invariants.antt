use Rattle.std.proofs.Common.{◌≡◌, ◌-◌, ◌≤◌}
use Rattle.md5.specs.Md5.{Holds}
use Rattle.br_fs.specs.Alike.{HasFront}
use Rattle.br_fs.proofs.file_digests.digest_front.Given as goal

-- the bytes so far were digested
abbrev pub invariant-loop-at : goal.invariant-loop-at
invariant-loop-at g l = record {
  inside : l.at ≤ l.count;
  same : g.D.Disk.told l.disk ≡ g.D.Disk.told l.initial.disk;
  front : HasFront (g.D.Disk.told l.disk) (g.D.Disk.path_of l.file) l.at (Holds l.hasher);
}

abbrev pub decreases-loop-at : goal.decreases-loop-at
decreases-loop-at g l = l.count - l.at
