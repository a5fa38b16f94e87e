use Rattle.br_tree.specs.Walk.{marked_in}
use Rattle.br_tree.proofs.SignLaws.{none_begins_if}
use Rattle.br_tree.proofs.child_names.note_child.Goals as goal

pub sign_if_any-sign-requires-clause-quiet : goal.sign_if_any-sign-requires-clause-quiet
sign_if_any-sign-requires-clause-quiet c =
    none_begins_if c.args.guess (marked_in c.args.entries.now c.args.flags.now) c.args.directory.now c.child_name-name.result.now c.front_of.result.now c.front_of.ensures c.requires.quiet
