use Rattle.std.proofs.Common.{subst}
use Rattle.br_model.specs.Console.{IsConsole}
use Rattle.br_mark.specs.Seen.{Situation}
use Rattle.br_mark.proofs.console.Console.marked.Goals as goal

pub returns-clause-valid : goal.returns-clause-valid
returns-clause-valid c =
    let marks = c.entries.ensures.valid.marks_are in
    subst (λ (s : Situation). IsConsole s.view s.state) c.self.view_is (record { ordered = marks.ordered; in_view = marks.in_view })
