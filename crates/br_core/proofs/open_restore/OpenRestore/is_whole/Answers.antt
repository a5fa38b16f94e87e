use Rattle.std.proofs.Common.{ℕ, List, true, sym, ap, ◌∙◌}
use Rattle.std.specs.Prelude.{◌==◌}
use Rattle.std.specs.List.{list_all}
use Rattle.br_core.specs.Statuses.{is_finished}
use Rattle.br_core.specs.declared.piece_status.Status.{Status}
use Rattle.br_core.proofs.WholeLaws.{tells_whole}
use Rattle.br_core.proofs.open_restore.OpenRestore.is_whole.Goals as goal

pub returns-then-is_empty : goal.returns-then-is_empty
returns-then-is_empty c =
    let r = c.args.self.now in
    tells_whole r true c.all_finished.result
    (sym c.if-is_empty.true ∙ c.is_empty.ensures ∙ ap (λ (n : ℕ). n == 0) r.transit.ok.0)
    (c.all_finished.ensures ∙ ap (λ (ss : List Status). list_all is_finished ss) c.deref.ensures.value)
