use Rattle.std.proofs.Common.{◌∙◌, ap, subst, List}
use mathlib.Core.List.{IsPrefix}
use Rattle.br_model.specs.Job.{JobRows}
use Rattle.br_keeper.proofs.BeginningLaws.{prefix_shorter}
use Rattle.br_keeper.proofs.beginnings.Front.compare.Goals as goal

pub returns : goal.returns
returns c = let both = c.learn.new.self.log in
    let this : IsPrefix c.args.self.now.log both = subst (λ (l : List JobRows). IsPrefix l both) (ap (λ s. s.log) c.again-both.ensures ∙ ap (λ b. b.log) c.self.view_is) c.learn.ensures.2 in
    let that : IsPrefix c.args.other.now.log both = subst (λ (l : List JobRows). IsPrefix l both) (ap (λ b. b.log) c.other.view_is) c.learn.ensures.3 in
    prefix_shorter c.args.self.now.log c.args.other.now.log both this that c.requires.less
