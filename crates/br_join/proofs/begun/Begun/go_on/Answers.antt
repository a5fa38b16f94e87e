use Rattle.std.proofs.Common.{◌∷◌, []}
use Rattle.br_model.specs.Meaning.{with_hits}
use Rattle.br_join.proofs.FrontLaws.{folds}
use Rattle.br_join.proofs.begun.Begun.go_on.Goals as goal

pub returns : goal.returns
returns c = λ done held begun.
    let h = c.args.hit.now in
    c.catch_up.ensures done (with_hits held (h ∷ [])) h.key
    (folds held h c.args.self.now c.fold.new.self begun c.requires.past c.requires.short (c.fold.ensures c.if-not-fold.false))
