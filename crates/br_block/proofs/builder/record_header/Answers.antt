use Rattle.std.proofs.Common.{◌≡◌, rules, Fits, w32, ap, arith}
use Rattle.br_model.specs.Block.{Fragment}
use Rattle.br_block.proofs.builder.record_header.Goals as goal

pub returns-clause-size : goal.returns-clause-size
returns-clause-size c =
    let fits : Fits w32 c.fragment.inside.size = search rules in
    let same : c.fragment.inside.size ≡ c.args.fragment.now.size = ap (λ (f : Fragment). f.size) c.fragment.view_is in
    omega arith
