use Rattle.br_tree.specs.Walk.{NoneBegins, marked_in}
use Rattle.br_tree.proofs.SignLaws.{plain_sign}
use Rattle.br_tree.proofs.sign.sign_if_any.Goals as goal

pub returns-in-None : goal.returns-in-None
returns-in-None c =
    let marked = marked_in c.args.entries.now c.args.flags.now in
    let none : NoneBegins marked c.args.path.now = rw (c.in-None.is) at c.requires.quiet in
    plain_sign marked c.args.path.now none
