use Rattle.std.proofs.Common.{ap, sym, ◌∙◌}
use Rattle.br_model.specs.File.{Item}
use Rattle.br_reread_files.proofs.StatLaws.{same_stat, stat_itself}
use Rattle.br_reread_files.proofs.likeness.have_same_numbers.Goals as goal

pub returns-then-one-other-2-clause-stat : goal.returns-then-one-other-2-clause-stat
returns-then-one-other-2-clause-stat c = λ same.
    sym (ap (λ (item : Item). item.stat) c.one.view_is) ∙ same_stat c.one.inside.stat c.other.inside.stat (sym c.eq.ensures ∙ same)
    ∙ ap (λ (item : Item). item.stat) c.other.view_is

pub returns-then-one-other-2-clause-same : goal.returns-then-one-other-2-clause-same
returns-then-one-other-2-clause-same c = λ e.
    c.eq.ensures ∙ stat_itself c.one.inside.stat c.other.inside.stat
    (ap (λ (item : Item). item.stat) c.one.view_is ∙ ap (λ (item : Item). item.stat) e ∙ sym (ap (λ (item : Item). item.stat) c.other.view_is))
