use Rattle.std.proofs.Common.{◌-◌, take, drop, ap, ◌∙◌, length-take, arith}
use Rattle.std.proofs.lemmas.List.{with_items_is}
use Rattle.std.proofs.lemmas.List.Sums.{count_by-le-length}
use Rattle.br_tree.specs.Sums.{painted, repainted}
use Rattle.br_tree.specs.Walk.{differs}
use Rattle.br_tree.proofs.PaintLaws.{painted_is, repainted_is}
use Rattle.br_tree.proofs.flags.Flags.set.Goals as goal

pub returns-clause-flags : goal.returns-clause-flags
returns-clause-flags c =
    with_items_is c.self.inside.flags c.set_between.new.flags (c.set_between.auto.flags ∙ c.deref_mut.ensures.len)
    ∙ c.set_between.ensures.flags ∙ ap (painted c.args.from c.args.to c.args.value) (c.deref_mut.ensures.value ∙ c.self.view_is)
    ∙ painted_is c.args.from c.args.to c.args.value c.args.self.now c.requires.ordered c.requires.bound

pub returns-clause-count : goal.returns-clause-count
returns-clause-count c =
    c.set_between.ensures.count ∙ ap (repainted c.args.from c.args.to c.args.value) (c.deref_mut.ensures.value ∙ c.self.view_is)
    ∙ repainted_is c.args.from c.args.to c.args.value c.args.self.now c.requires.ordered c.requires.bound

pub returns-clause-few : goal.returns-clause-few
returns-clause-few c =
    let fs = c.args.self.now in
    let part = take (c.args.to - c.args.from) (drop c.args.from fs) in
    let is = returns-clause-count c in
    omega (arith, is, count_by-le-length (λ f. differs c.args.value f) part, length-take (c.args.to - c.args.from) (drop c.args.from fs))
