use Rattle.br_tree.proofs.ChildLaws.{front_is}
use Rattle.br_tree.proofs.child_names.front_of.Goals as goal

pub returns : goal.returns
returns c = front_is c.args.directory.now c.args.path.now c.args.name.now c.requires.begins c.requires.named
