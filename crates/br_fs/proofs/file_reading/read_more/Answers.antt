use Rattle.std.proofs.Common.{◌≤◌, ◌+◌, take, length, arith}
use Rattle.std.proofs.lemmas.Grind.{common_steps}
use Rattle.std.proofs.lemmas.List.{length-take-le}
use Rattle.br_fs.proofs.ReadLaws.{front_kept, front_more, part_put}
use Rattle.br_fs.proofs.file_reading.read_more.Goals as goal

pub returns-clause-front : goal.returns-clause-front
returns-clause-front g c =
    let now = c.read_some.new.buf in
    let old = c.make_long.new.buf.items in
    let kept = c.in_ok-make_long.ensures.kept c.args.done c.requires.in_buffer in
    let within : c.args.done ≤ length old = grind arith in
    let len = length-take-le c.args.done old within in
    let below : c.args.done + c.in_ok-n.n ≤ c.make_long.new.buf.len = let same = c.read_some.auto.buf in grind (arith, common_steps) in
    rw (part_put old c.deref_mut.result.now now _ _ c.args.done c.in_ok-n.n _ c.deref_mut.ensures.value within c.in_ok-n.ensures.fits below)
    (front_more _ _ _ (take c.args.done old) now c.in_ok-n.n
    c.in_ok-n.ensures.fits (front_kept _ _ _ _ _ c.in_ok-n.ensures.same (rw kept c.requires.front)) (rw len c.in_ok-n.ensures.read))
