use Rattle.std.proofs.Common.{ap, ◌∙◌}
use Rattle.br_block.specs.Building.{Building}
use Rattle.br_session.specs.Whole.{are_whole}
use Rattle.br_session.proofs.PackingLaws.{none_are_whole}
use Rattle.br_session.proofs.packing.Packer.new.Goals as goal

pub invariant_of-result : goal.invariant_of-result
invariant_of-result c =
    let made = c.in_ok-current.ensures in
    record {
      bounds = c.requires.bounds;
      same_session = ap (λ (b : Building). b.session) made;
      same_limit = ap (λ (b : Building). b.limit) made;
      whole = λ _. ap (λ (b : Building). are_whole b.fragments) made ∙ none_are_whole;
    }
