use Rattle.std.proofs.Common.{◌≡◌, ◌∙◌, ap, sym, subst}
use Rattle.std.specs.Result.{IfOk}
use Rattle.br_piece.specs.Missing as model
use Rattle.br_piece.specs.NearRanges.{AreSorted}
use Rattle.br_piece.proofs.MissingLaws.{missing_permuted}
use Rattle.br_piece.proofs.NearLaws.{sorted_are}
use Rattle.br_piece.proofs.lacking.missing.Goals as goal

pub missing_of-requires : goal.missing_of-requires
missing_of-requires c =
    subst AreSorted (sym c.deref.ensures.value) (sorted_are c.sort_unstable.new.self.items c.sort_unstable.ensures.sorted)

pub returns : goal.returns
returns c =
    let groups = c.args.groups.now in
    subst (λ gaps. IfOk c.missing_of.result (λ found. found.items ≡ gaps))
    (ap (model.missing groups) c.deref.ensures.value ∙ missing_permuted groups c.args.keys.items c.sort_unstable.new.self.items c.sort_unstable.ensures.permutation)
    c.missing_of.ensures
