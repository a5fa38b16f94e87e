use Rattle.std.proofs.Common.{◌≡◌, ◌∙◌, List, ℕ, ap}
use Rattle.std.proofs.lemmas.Result.{on_ok_weaker}
use Rattle.br_types.specs.Newest.{Copy}
use Rattle.br_records.specs.Outline.{Outline}
use Rattle.br_check.proofs.CopyLaws.{noted_one}
use Rattle.br_check.proofs.copies.note.Goals as goal

pub returns-in-File : goal.returns-in-File
returns-in-File c =
    let path : c.bytes.result.now ≡ c.in-File.outline.path = c.bytes.ensures.same ∙ ap (λ (o : Outline). o.path) c.outline.view_is in
    let noted : Copy = record { key = c.args.key; path = c.bytes.result.now } in
    let shown : Copy = record { key = c.args.key; path = c.in-File.outline.path } in
    rw c.in-File.is
    (on_ok_weaker c.note.result
    (noted_one c.args.copies.now c.note.new.self noted shown (ap (λ (p : List ℕ). record { key = c.args.key; path = p }) path)) c.note.ensures)
