-- The fragments that are left, one after the other.
use Rattle.std.proofs.Common.{◌≡◌, ℕ, zero, suc, ◌+◌, ◌*◌, ◌/◌, ◌<◌, ◌≤◌, List, [], ◌∷◌, length, drop, Option, Ok, refl, sym, ap, ◌∙◌, inl, inr, arith}
use Rattle.std.proofs.lemmas.Bool.{cases_lt, le-ltb, lt-ltb}
use Rattle.std.proofs.lemmas.List.{length-drop}
use Rattle.br_model.specs.Name.{SessionKey}
use Rattle.br_model.specs.Block.{Header, header_length, session_of, read_header, Fragment, record_header_length, first_fragment, behind_first, fragments_in, fragments_of}
use Rattle.br_model.proofs.VolumeLaws.{at_least_16}
use Rattle.br_model.proofs.BlockLaws.{at_least_12, fewer_behind}
use Rattle.br_block.proofs.HeaderLaws.{header_is}

none_in : (session : Option SessionKey) (n : ℕ) (bytes : List ℕ) → length bytes < record_header_length session → fragments_in session n bytes ≡ []
unfolding fragments_in
none_in session zero bytes short = refl
none_in session (suc n) bytes short = rw (lt-ltb (length bytes) (record_header_length session) short) refl

first_in : (session : Option SessionKey) (n : ℕ) (bytes : List ℕ) → record_header_length session ≤ length bytes
    → fragments_in session (suc n) bytes ≡ first_fragment session bytes ∷ fragments_in session n (behind_first session bytes)
unfolding fragments_in
first_in session n bytes long = rw (le-ltb (length bytes) (record_header_length session) long) refl

-- a number of fragments that is large enough gives them all
enough : (session : Option SessionKey) (n m : ℕ) (bytes : List ℕ) → length bytes < 12 * suc n → length bytes < 12 * suc m → fragments_in session n bytes ≡ fragments_in session m bytes
enough session zero m bytes fits fits_too = none_in session zero bytes (omega (arith, at_least_12 session)) ∙ sym (none_in session m bytes (omega (arith, at_least_12 session)))
enough session (suc n) zero bytes fits fits_too = none_in session (suc n) bytes (omega (arith, at_least_12 session)) ∙ sym (none_in session zero bytes (omega (arith, at_least_12 session)))
enough session (suc n) (suc m) bytes fits fits_too =
    elim (cases_lt (length bytes) (record_header_length session)) [
      | inl short ↦ none_in session (suc n) bytes short ∙ sym (none_in session (suc m) bytes short)
      | inr long ↦
          let fewer = fewer_behind session bytes long in
          let more = enough session n m (behind_first session bytes) (omega (arith, fewer, fits)) (omega (arith, fewer, fits_too)) in
          first_in session n bytes long ∙ ap (λ (fs : List Fragment). first_fragment session bytes ∷ fs) more ∙ sym (first_in session m bytes long)
    ]

-- each takes 12 bytes at least
few_in : (session : Option SessionKey) (n : ℕ) (bytes : List ℕ) → 12 * length (fragments_in session n bytes) ≤ length bytes
unfolding fragments_in
few_in session zero bytes = omega arith
few_in session (suc n) bytes =
    elim (cases_lt (length bytes) (record_header_length session)) [
      | inl short ↦ rw (none_in session (suc n) bytes short) (omega arith)
      | inr long ↦
          let fewer = fewer_behind session bytes long in
          let more = few_in session n (behind_first session bytes) in rw (first_in session n bytes long) (omega (arith, fewer, more))
    ]

pub few_of : (block : List ℕ) → header_length (session_of block) ≤ length block → 16 + 12 * length (fragments_of block) ≤ length block
unfolding fragments_of
few_of block long =
    let session = session_of block in
    omega (arith, long, at_least_16 session, few_in session (length block / 12) (drop (header_length session) block), length-drop (header_length session) block)

-- ---- the list that is left

pub none_left : (session : Option SessionKey) (bytes : List ℕ) → length bytes < record_header_length session → fragments_in session (length bytes / 12) bytes ≡ []
none_left session bytes short = none_in session (length bytes / 12) bytes short

first_by : (session : Option SessionKey) (n : ℕ) (bytes : List ℕ) → record_header_length session ≤ length bytes → length bytes < 12 * suc n
    → fragments_in session n bytes ≡ first_fragment session bytes ∷ fragments_in session (length (behind_first session bytes) / 12) (behind_first session bytes)
first_by session zero bytes long fits = absurd (omega (arith, at_least_12 session))
first_by session (suc n) bytes long fits =
    let fewer = fewer_behind session bytes long in
    let more = enough session n (length (behind_first session bytes) / 12) (behind_first session bytes) (omega (arith, fewer)) (omega arith) in
    first_in session n bytes long ∙ ap (λ (fs : List Fragment). first_fragment session bytes ∷ fs) more

pub first_left : (session : Option SessionKey) (bytes : List ℕ) → record_header_length session ≤ length bytes
    → fragments_in session (length bytes / 12) bytes ≡ first_fragment session bytes ∷ fragments_in session (length (behind_first session bytes) / 12) (behind_first session bytes)
first_left session bytes long = first_by session (length bytes / 12) bytes long (omega arith)

-- the fragments of a block follow its header
pub of_block : (block bytes rest : List ℕ) (h k : Header) → read_header block ≡ Ok h → k ≡ h → bytes ≡ block → rest ≡ drop (header_length k.session) bytes
    → fragments_in k.session (length rest / 12) rest ≡ fragments_of block
unfolding fragments_of
of_block block bytes rest h k e same whole behind =
    let least = header_length (session_of block) in
    let session : k.session ≡ session_of block = ap (λ (g : Header). g.session) same ∙ sym (header_is block h e).0 in
    let left : rest ≡ drop least block = behind ∙ ap (drop (header_length k.session)) whole ∙ ap (λ (s : Option SessionKey). drop (header_length s) block) session in
    rw (session, left) (enough (session_of block) (length (drop least block) / 12) (length block / 12) (drop least block) (omega arith) (omega (arith, length-drop least block)))
