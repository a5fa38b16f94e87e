-- A block under construction, from its first byte to its header.
use Rattle.std.proofs.Common.{◌≡◌, ℕ, suc, ◌*◌, ◌/◌, ◌^◌, ◌<◌, ◌≤◌, List, [], ◌∷◌, ◌++◌, length, take, drop, Some, Ok, refl, sym, ap, ◌∙◌, inl, inr, arith}
use Rattle.std.proofs.lemmas.Bool.{cases_lt, le-ltb}
use Rattle.std.proofs.lemmas.List.{append-nil, length-append, length-drop, nil_from_length, take_all, drop-append-le}
use Rattle.std.proofs.lemmas.List.Concat.{flat_map-append}
use Rattle.std.proofs.Math.Nat.{mod-eq_of_lt}
use Rattle.std.specs.Prelude.{flat_map}
use Rattle.std.specs.List.{AllByRecursion}
use Rattle.br_model.specs.Name.{SessionKey}
use Rattle.br_model.specs.Block.{Header, header_bytes, read_header, read_block, Fragment, fragment_bytes, IsFragmentOf, AreFilled, session_of, fragments_in, fragments_of}
use Rattle.br_model.specs.Session.{block_size, written_block}
use Rattle.br_model.proofs.BlockLaws.{read_as, fragments_read_as}
use Rattle.br_model.proofs.ListLaws.{all_append}
use Rattle.br_model.proofs.SpanLaws.{read_header_more}
use Rattle.br_model.proofs.VolumeLaws.{header_reads}
use Rattle.br_model.proofs.WrittenBlockLaws.{IsHeader, header_is_read, length-fragments}
use Rattle.br_block.specs.Building.{fragments_after, IsBuilding}

-- ---- headers

-- the bytes of a valid header are read as it
pub header_reads_back : (h : Header) (bytes : List ℕ) → bytes ≡ header_bytes h → IsHeader h → read_header bytes ≡ Ok h
header_reads_back h bytes e is = ap read_header (e ∙ sym (append-nil (header_bytes h))) ∙ header_is_read h [] is

-- ---- fragments

-- the fragments after the room for a header are those that were added
pub fragments_after_is : (key : SessionKey) (bytes : List ℕ) (fs : List Fragment) → drop 24 bytes ≡ flat_map fragment_bytes fs → AreFilled fs [] → AllByRecursion (IsFragmentOf (Some key)) fs
    → fragments_after key bytes ≡ fs
unfolding fragments_after
fragments_after_is key bytes fs joined filled each =
    let whole : drop 24 bytes ≡ flat_map fragment_bytes fs ++ [] = joined ∙ sym (append-nil (flat_map fragment_bytes fs)) in
    let fewer : length (flat_map fragment_bytes fs ++ []) < 12 * suc (length bytes / 12) = omega (arith, ap length whole, length-drop 24 bytes) in
    ap (fragments_in (Some key) (length bytes / 12)) whole ∙ read_as (Some key) fs (length bytes / 12) [] each filled (omega arith) fewer

-- bytes with fragments after the room for a header are a block under construction
building : (key : SessionKey) (limit number : ℕ) (bytes : List ℕ) (fs : List Fragment) → number < 2 ^ 32 → 24 ≤ length bytes → length bytes ≤ limit → limit ≤ 64512 → drop 24 bytes ≡ flat_map fragment_bytes fs
    → AreFilled fs [] → AllByRecursion (IsFragmentOf (Some key)) fs → IsBuilding key limit number bytes
building key limit number bytes fs fits least most bound joined filled each =
    let is = fragments_after_is key bytes fs joined filled each in
    record {
      number_to = fits;
      least = least;
      most = most;
      bound = bound;
      joined = rw is joined;
      filled = rw is filled;
      each = rw is each;
    }

-- room for a header alone
pub no_fragments : (key : SessionKey) (limit number : ℕ) (bytes : List ℕ) → number < 2 ^ 32 → length bytes ≡ 24 → 24 ≤ limit → limit ≤ 64512
    → IsBuilding key limit number bytes × (fragments_after key bytes ≡ [])
no_fragments key limit number bytes fits alone most bound =
    let none : drop 24 bytes ≡ [] = nil_from_length (drop 24 bytes) (omega (arith, length-drop 24 bytes, alone)) in
    (building key limit number bytes [] fits (omega (arith, alone)) (omega (arith, alone, most)) bound none tt tt, fragments_after_is key bytes [] none tt tt)

-- the number of bytes is the size of the block
pub size_is : (key : SessionKey) (limit number : ℕ) (bytes : List ℕ) → IsBuilding key limit number bytes → block_size (fragments_after key bytes) ≡ length bytes
size_is key limit number bytes is =
    omega (arith, sym (length-fragments (fragments_after key bytes)), ap length is.joined, length-drop 24 bytes, is.least)

-- one more fragment after fragments with all their data
filled_more : (fs : List Fragment) (f : Fragment) → AllByRecursion (λ (g : Fragment). length g.bytes ≡ g.size) fs → length f.bytes ≤ f.size → AreFilled (fs ++ f ∷ []) []
filled_more [] f whole within =
    elim (cases_lt (length f.bytes) f.size) [
      | inl lt ↦ inr (lt, refl)
      | inr le ↦ inl (omega (arith, le, within))
    ]
filled_more (g ∷ []) f whole within = (whole.0, filled_more [] f tt within)
filled_more (g ∷ h ∷ more) f whole within = (whole.0, filled_more (h ∷ more) f whole.1 within)

pub added : (key : SessionKey) (limit number : ℕ) (bytes more : List ℕ) (f : Fragment) → IsBuilding key limit number bytes → more ≡ bytes ++ fragment_bytes f → length more ≤ limit
    → AllByRecursion (λ (g : Fragment). length g.bytes ≡ g.size) (fragments_after key bytes) → length f.bytes ≤ f.size → IsFragmentOf (Some key) f
    → IsBuilding key limit number more × (fragments_after key more ≡ fragments_after key bytes ++ f ∷ [])
added key limit number bytes more f is joined most whole within of_key =
    let fs = fragments_after key bytes in
    let behind : drop 24 more ≡ flat_map fragment_bytes (fs ++ f ∷ []) =
    ap (drop 24) joined ∙ drop-append-le 24 bytes (fragment_bytes f) is.least ∙ ap (λ (x : List ℕ). x ++ fragment_bytes f) is.joined
    ∙ ap (λ (x : List ℕ). flat_map fragment_bytes fs ++ x) (sym (append-nil (fragment_bytes f))) ∙ sym (flat_map-append fragment_bytes fs (f ∷ [])) in
    let filled = filled_more fs f whole within in
    let each = all_append (IsFragmentOf (Some key)) fs (f ∷ []) is.each (of_key, tt) in
    let least : 24 ≤ length more = omega (arith, ap length joined, length-append bytes (fragment_bytes f), is.least) in
    (building key limit number more (fs ++ f ∷ []) is.number_to least most is.bound behind filled each, fragments_after_is key more (fs ++ f ∷ []) behind filled each)

-- ---- the closed block

-- its header, and then its fragments
pub closed_is : (key : SessionKey) (limit number : ℕ) (bytes : List ℕ) → IsBuilding key limit number bytes
    → header_bytes (record { checksum = 0; size = length bytes; number = number; session = Some key }) ++ drop 24 bytes ≡ written_block key (number, fragments_after key bytes)
closed_is key limit number bytes is = rw (← size_is key limit number bytes is, is.joined, mod-eq_of_lt is.number_to) refl

-- a header is read whatever follows it
pub header_in_front : (h : Header) (bytes more : List ℕ) → bytes ≡ header_bytes h → read_header bytes ≡ Ok h → read_header (bytes ++ more) ≡ Ok h
header_in_front h bytes more e read = read_header_more bytes more h read

-- a block that is as long as its header says is read whole
pub closed_is_whole : (block : List ℕ) (h : Header) → read_header block ≡ Ok h → h.size ≡ length block → read_block block ≡ Ok block
unfolding read_block
closed_is_whole block h read size =
    rw (read, le-ltb (length block) h.size (omega (arith, size)))
    (ap (λ (x : List ℕ). Ok x) (take_all h.size block (omega (arith, size))))

-- and its fragments are those after its header
pub closed_reads_back : (block : List ℕ) (h : Header) (key : SessionKey) (fs : List Fragment) → read_header block ≡ Ok h → h.session ≡ Some key → drop 24 block ≡ flat_map fragment_bytes fs
    → AreFilled fs [] → AllByRecursion (IsFragmentOf (Some key)) fs → fragments_of block ≡ fs
closed_reads_back block h key fs read session_is behind filled each =
    let session : session_of block ≡ Some key = (header_reads block h read).session_is ∙ session_is in
    fragments_read_as block (Some key) fs [] session (behind ∙ sym (append-nil (flat_map fragment_bytes fs))) (omega arith) filled each

-- what is written over a vector of the same length is all of it
pub written_back : (new old : List ℕ) (len : ℕ) → length new ≡ len → length old ≡ len → take len (new ++ drop (length new) old) ≡ new
written_back new old len e e2 =
    let none : drop (length new) old ≡ [] = nil_from_length (drop (length new) old) (omega (arith, length-drop (length new) old, e, e2)) in
    rw (none, append-nil new) (take_all len new (omega (arith, e)))
