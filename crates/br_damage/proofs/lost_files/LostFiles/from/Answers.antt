use Rattle.std.proofs.Common.{drop, sym, subst, ap, ◌∙◌}
use Rattle.std.proofs.lemmas.List.Sorted.{IsNonDecreasingBy-drop}
use Rattle.br_damage.specs.LostFiles.{Rise}
use Rattle.br_damage.specs.declared.lost_files.Span.{Span}
use Rattle.br_damage.proofs.lost_files.LostFiles.from.Goals as goal

pub returns-clause-rising : goal.returns-clause-rising
returns-clause-rising c =
    subst Rise (sym (c.split_at.ensures.back ∙ ap (drop c.passed.result) c.deref.ensures.value))
    (IsNonDecreasingBy-drop (λ (s : Span). s.low) c.passed.result c.args.self.now.spans.items c.args.self.now.rising)
