use Rattle.std.proofs.Common.{◌≡◌, ◌∙◌, List, ℕ, ap, map, sym}
use Rattle.std.proofs.lemmas.Result.{on_ok_weaker}
use Rattle.br_types.specs.Newest.{Copy, is_outdated}
use Rattle.br_records.specs.Outline.{Outline}
use Rattle.br_records.specs.ShownRecords.{outlined}
use Rattle.br_check.specs.Findings.{copies_of}
use Rattle.br_check.proofs.CopyLaws.{noted_old}
use Rattle.br_check.proofs.copies.note_old.Goals as goal

pub returns-then-is_old : goal.returns-then-is_old
returns-then-is_old c =
    let all : List Copy = copies_of (map outlined c.args.all.now) in
    let path : c.bytes-then-is_old.result.now ≡ c.in-File.outline.path = c.bytes-then-is_old.ensures.same ∙ ap (λ (o : Outline). o.path) c.outline.view_is in
    let same : c.bytes.result.now ≡ c.bytes-then-is_old.result.now = c.bytes.ensures.same ∙ sym c.bytes-then-is_old.ensures.same in
    let noted : Copy = record { key = c.args.key; path = c.bytes-then-is_old.result.now } in
    let shown : Copy = record { key = c.args.key; path = c.in-File.outline.path } in
    rw c.in-File.is
    (on_ok_weaker c.note.result
    (noted_old c.args.old.now c.note.new.self all noted shown (ap (λ (p : List ℕ). record { key = c.args.key; path = p }) path)
    (ap (λ (p : List ℕ). is_outdated all (record { key = c.args.key; path = p })) (sym same) ∙ sym c.is_old.ensures ∙ c.if-is_old.true))
    c.note.ensures)
