use Rattle.std.proofs.Common.{◌≡◌, map, arith, ◌∙◌}
use Rattle.br_join.specs.Outcome.{restored}
use Rattle.br_engine.specs.OlderCounts.{older, on_top}
use Rattle.br_engine.proofs.OlderLaws.{none_on_top}
use Rattle.br_engine.proofs.older_counts.older_copies.Goals.{then-files-eq0, else-files-eq0+in_ok-on_top}
use Rattle.br_engine.proofs.older_counts.older_copies.Goals as goal

pub returns-clause-on_top : goal.returns-clause-on_top
returns-clause-on_top c =
    elim c.if-files-eq0.branch [
      | then-files-eq0 w ↦
          let none : older (map restored c.args.outcomes.now) ≡ 0 = omega (arith, c.count_older-files.ensures, w.if-files-eq0) in
          let zero : on_top (map restored c.args.outcomes.now) ≡ 0 = none_on_top (map restored c.args.outcomes.now) none in
          omega (arith, w.on_top-is, zero)
      | else-files-eq0+in_ok-on_top w ↦ w.on_top-is ∙ w.in_ok-on_top.ensures
    ]
