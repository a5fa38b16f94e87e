use Rattle.std.proofs.Common.{Some, None, ap, sym, ◌∙◌}
use Rattle.br_fs.specs.MemMaker.{bytes_in}
use Rattle.br_fs.proofs.MakingLaws.{found_change}
use Rattle.br_fs.proofs.mem_maker.bytes_at.Goals as goal

pub returns-in-None : goal.returns-in-None
returns-in-None c = sym (ap bytes_in (found_change c.args.changes.now c.args.path.now None c.in-None.ensures))

pub returns-in-Some : goal.returns-in-Some
returns-in-Some c =
    c.known_bytes.ensures ∙ sym (ap bytes_in (found_change c.args.changes.now c.args.path.now (Some c.in-Some.change.now) c.in-Some.ensures))
