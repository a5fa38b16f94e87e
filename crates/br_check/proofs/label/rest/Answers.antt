use Rattle.std.proofs.Common.{◌-◌, length, drop, arith}
use Rattle.std.proofs.lemmas.List.{length-drop, take_all}
use Rattle.br_check.proofs.label.rest.Goals as goal

pub returns : goal.returns
returns c =
    let label = c.args.label.now in
    let left = length-drop 57 label in
    take_all (length label - 57) (drop 57 label) (omega (arith, left))
