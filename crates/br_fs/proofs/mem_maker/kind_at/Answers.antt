use Rattle.std.proofs.Common.{Some, None, option_map, ap, sym, ◌∙◌}
use Rattle.br_fs.specs.Making.{kind_of}
use Rattle.br_fs.proofs.MakingLaws.{found_change}
use Rattle.br_fs.proofs.mem_maker.kind_at.Goals as goal

pub returns-in-None : goal.returns-in-None
returns-in-None c = sym (ap (option_map kind_of) (found_change c.args.changes.now c.args.path.now None c.in-None.ensures))

pub returns-in-Some : goal.returns-in-Some
returns-in-Some c =
    c.kind.ensures ∙ sym (ap (option_map kind_of) (found_change c.args.changes.now c.args.path.now (Some c.in-Some.change.now) c.in-Some.ensures))
