-- The visits of a session that was written have whole blocks.
use Rattle.std.proofs.Common.{ℕ, ◌^◌, ◌<◌, ◌≤◌, List, sym, subst}
use Rattle.std.specs.List.{AllByRecursion}
use Rattle.br_model.specs.Name.{SessionKey}
use Rattle.br_model.specs.Session.{ToSave, Place, visits, Written, IsWritten}
use Rattle.br_model.proofs.WrittenVolumeLaws.{IsWholeBlock}
use Rattle.br_model.proofs.WrittenSpanLaws.{IsWholeVisit}
use Rattle.br_model.proofs.WrittenSessionLaws.{blocks_are_whole, parts_are, visits_are_whole}

-- the visits of a session that was written have whole blocks
pub written_visits : (files : List ToSave) (key : SessionKey) (limit : ℕ) (places : List Place) (starts : List (List ℕ × ℕ)) (written : Written) → key.id < 2 ^ 32 → key.time < 2 ^ 32 → limit ≤ 64512
    → (is : IsWritten files key limit places starts written) → AllByRecursion IsWholeVisit (visits places is.blocks)
written_visits files key limit places starts written id_to time_to to is =
    let parts = is.packed.parts in
    let blocks = blocks_are_whole key limit 0 parts (record { id_to = id_to; time_to = time_to }) to (parts_are limit parts is.packed.closed) in
    visits_are_whole places is.blocks (subst (λ (bs : List (List ℕ)). AllByRecursion IsWholeBlock bs) (sym is.packed.bytes_are) blocks)
