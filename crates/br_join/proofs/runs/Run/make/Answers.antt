use Rattle.std.proofs.Common.{ap, ◌∙◌}
use Rattle.std.specs.Option.{option_copied}
use Rattle.br_model.specs.File.{Outcome}
use Rattle.br_join.specs.Runs.{file_of, named}
use Rattle.br_join.proofs.runs.Run.make.Goals as goal

pub returns : goal.returns
returns c =
    ap (λ (o : Outcome). record { key = c.self.inside.key; outcome = o })
    (c.named.ensures ∙ ap (named (option_copied c.self.inside.path)) c.in_ok-outcome.ensures)
    ∙ ap file_of c.self.view_is
