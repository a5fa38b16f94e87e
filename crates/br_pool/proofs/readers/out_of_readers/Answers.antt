use Rattle.std.proofs.Common.{arith}
use Rattle.br_pool.specs.declared.worker.Reader.{Reader}
use Rattle.br_pool.proofs.BackLaws.{back_more}
use Rattle.br_pool.proofs.readers.out_of_readers.Goals as goal

pub loop-readers-preserved : goal.loop-readers-preserved
loop-readers-preserved g c = let i = c.loop-readers.invariant in
    let taken = c.take_last-drive.ensures in
    let r : Reader g.row.D.Denot = c.take_last-drive.result in
    let back = c.push_reserved.ensures in record {
      drives = back_more (λ (r : Reader g.row.D.Denot). r.drive) c.loop-readers.drives.items c.push_reserved.new.self.items _ c.take_last-drive.new.self.items c.loop-readers.readers.items r taken.items back.items i.drives;
      room = let a = back.len in let b = back.capacity in let d = taken.len in let e = i.room in omega (arith, a, b, d, e);
    }
