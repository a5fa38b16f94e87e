use Rattle.std.proofs.Common.{◌≡◌, ◌∙◌, ◌∷◌, [], List, ℕ, ap, subst}
use Rattle.std.proofs.lemmas.Result.{on_ok_weaker}
use Rattle.br_records.specs.Outline.{Outline}
use Rattle.br_check.specs.Conflicts.{TellsMore}
use Rattle.br_check.proofs.ConflictLaws.{told_none}
use Rattle.br_check.proofs.conflict_lines.push_conflict.Goals as goal

pub returns-in-File : goal.returns-in-File
returns-in-File c =
    let path : c.bytes.result.now ≡ c.in-File.outline.path = c.bytes.ensures.same ∙ ap (λ (o : Outline). o.path) c.outline.view_is in
    rw c.in-File.is
    (on_ok_weaker c.push_path.result
    (subst (λ (p : List ℕ). TellsMore c.args.ways.now c.push_path.new.ways c.args.text.now.items c.push_path.new.text.items (record { key = c.args.key; path = p } ∷ [])) path)
    c.push_path.ensures)

pub returns-in-Fault : goal.returns-in-Fault
returns-in-Fault c = rw c.in-Fault.is (told_none c.args.ways.now c.args.text.now.items)
