-- The header at the front of some bytes, and what it says of them.
use Rattle.std.proofs.Common.{◌≡◌, ℕ, ◌≤◌, List, ◌++◌, length, take, drop, Option, Ok, sym, ap, subst, ◌∙◌, inl, inr, arith}
use Rattle.std.proofs.lemmas.Bool.{cases_lt}
use Rattle.std.proofs.lemmas.List.{length-take, length-take-le, take-append-drop, get_or-take, get_or_past}
use Rattle.br_model.specs.Text.{AreBytes}
use Rattle.br_model.specs.Name.{SessionKey}
use Rattle.br_model.specs.Block.{Header, header_length, session_of, read_header}
use Rattle.br_model.proofs.VolumeLaws.{header_has_16, header_reads}
use Rattle.br_model.proofs.SpanLaws.{read_header_fewer}

-- the header of some bytes has their session, and a size within the bounds
pub header_is : (bytes : List ℕ) (h : Header) → read_header bytes ≡ Ok h → (session_of bytes ≡ h.session) × (16 ≤ h.size) × (h.size ≤ 4194304)
header_is bytes h e = let r = header_reads bytes h e in (r.session_is, (header_has_16 bytes h e).1, r.size_to)

AreBytes-take : (n : ℕ) (bytes : List ℕ) → AreBytes bytes → AreBytes (take n bytes)
AreBytes-take n bytes fits i =
    elim (cases_lt i n) [
      | inl lt ↦ rw (get_or-take n bytes i 0 lt) (fits i)
      | inr le ↦ rw (get_or_past (take n bytes) i 0 (omega (arith, length-take n bytes))) (omega arith)
    ]

-- the block alone has the same header, and the number of bytes that it says
pub block_is_whole : (bytes : List ℕ) (h k : Header) → read_header bytes ≡ Ok h → k ≡ h → k.size ≤ length bytes → AreBytes bytes
    → (read_header (take k.size bytes) ≡ Ok h) × (length (take k.size bytes) ≡ h.size) × AreBytes (take k.size bytes)
block_is_whole bytes h k e same whole fits =
    let size = ap (λ (g : Header). g.size) same in
    let joined : read_header (take k.size bytes ++ drop k.size bytes) ≡ Ok h = ap read_header (take-append-drop k.size bytes) ∙ e in
    let taken = length-take-le k.size bytes whole in (
      read_header_fewer (take k.size bytes) (drop k.size bytes) h joined (omega (arith, size, taken)),
      taken ∙ size,
      AreBytes-take k.size bytes fits,
    )

-- a block contains its header
pub holds_header : (block bytes : List ℕ) (h k : Header) → read_header block ≡ Ok h → k ≡ h → bytes ≡ block → header_length k.session ≤ length bytes
holds_header block bytes h k e same whole =
    let r = header_reads block h e in
    let session : session_of block ≡ k.session = r.session_is ∙ ap (λ (g : Header). g.session) (sym same) in
    rw whole (subst (λ (s : Option SessionKey). header_length s ≤ length block) session r.long)
