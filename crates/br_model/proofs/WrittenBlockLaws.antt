-- A block that was written has a valid header of its size, and its fragments are those that it was written of.
use Rattle.std.proofs.Common.{◌≡◌, ℕ, zero, suc, ◌+◌, ◌%◌, ◌^◌, ◌<◌, ◌≤◌, true, false, ltb, List, [], ◌∷◌, ◌++◌, length, drop, Option, None, Some, Ok, refl, sym, ap, subst, ◌∙◌, inl, inr, arith}
use Rattle.std.proofs.lemmas.Bool.{cases_lt, le-ltb, lt-ltb}
use Rattle.std.proofs.lemmas.Option.{same_Some}
use Rattle.std.proofs.lemmas.List.{append-nil, length-append}
use Rattle.std.proofs.lemmas.List.Sums.{sum_by-cons}
use Rattle.std.proofs.lemmas.Nat.{from_be_bytes-to_be_bytes_4, mod_below}
use Rattle.std.proofs.lemmas.Int.{fits_signed_from_abs}
use Rattle.std.specs.Prelude.{ℤ, pos, negsuc, neg_ℤ, FitsSigned, flat_map, sum_by, ◌||◌}
use Rattle.std.specs.Int.{w32, is_positive}
use Rattle.std.specs.List.{AllByRecursion}
use Rattle.br_model.specs.Name.{SessionKey}
use Rattle.br_model.specs.Block.{Header, header_length, header_bytes, letters, older_letters, has_letters, u32_at, session_of, read_header, Fragment, fragment_bytes, spelling, IsFragmentOf, AreFilled, fragments_of}
use Rattle.br_model.specs.Record.{Record, GoOn, AreParts, IsCut}
use Rattle.br_model.specs.Session.{block_size, AreWritten, written_block}
use Rattle.br_model.proofs.BlockLaws.{at_least_12, length-fragment_bytes, fragments_read_as}
use Rattle.br_model.proofs.VolumeLaws.{at_least_16}
use Rattle.br_model.proofs.ListLaws.{all_append}

-- ---- fragments of records that can be written

-- an index from 1 to 2 ^ 31 - 1, and a stream and a length that four bytes have
pub record IsWritable (r : Record) : Type 0 where
  pub index_from : 1 ≤ r.index
  pub index_to : r.index < 2 ^ 31
  pub stream_to : r.stream < 2 ^ 31
  pub size_to : length r.bytes < 2 ^ 32

-- a fragment of a file, whose numbers have four bytes each
pub record IsSound (f : Fragment) : Type 0 where
  pub positive : is_positive f.index ≡ true
  pub index_fits : FitsSigned w32 f.index
  pub stream_fits : FitsSigned w32 f.stream
  pub size_fits : f.size < 2 ^ 32

-- a number below 2 ^ 31 and its negation have four bytes with a sign
pos_fits : (n : ℕ) → n < 2 ^ 31 → FitsSigned w32 (pos n)
pos_fits n lt = fits_signed_from_abs w32 (pos n) lt

neg_fits : (n : ℕ) → n < 2 ^ 31 → FitsSigned w32 (neg_ℤ (pos n))
neg_fits zero lt = fits_signed_from_abs w32 (pos 0) (omega arith)
neg_fits (suc n) lt = fits_signed_from_abs w32 (negsuc n) lt

pos_is_positive : (n : ℕ) → 1 ≤ n → is_positive (pos n) ≡ true
pos_is_positive n le = lt-ltb 0 n le

-- a fragment with such an index, stream and size is sound
sound : (f : Fragment) (index size : ℕ) (stream : ℤ) → f.index ≡ pos index → f.stream ≡ stream → f.size ≡ size → 1 ≤ index → index < 2 ^ 31 → FitsSigned w32 stream → size < 2 ^ 32
    → IsSound f
sound f index size stream index_is stream_is size_is from to fits lt = record {
  positive = rw index_is (pos_is_positive index from);
  index_fits = rw index_is (pos_fits index to);
  stream_fits = rw stream_is fits;
  size_fits = omega (arith, size_is, lt);
}

-- the fragments that go on with a record that can be written are sound
go_on_sound : (index stream : ℕ) (left : List ℕ) (fs : List Fragment) → 1 ≤ index → index < 2 ^ 31 → stream < 2 ^ 31 → length left < 2 ^ 32 → GoOn index stream left fs
    → AllByRecursion IsSound fs
go_on_sound index stream left [] from to stream_to size_to g = tt
go_on_sound index stream left (f ∷ fs) from to stream_to size_to g = (
  sound f index (length left) (neg_ℤ (pos stream)) g.0 g.1 g.2 from to (neg_fits stream stream_to) size_to,
  go_on_sound index stream g.4 fs from to stream_to (omega (arith, size_to, ap length g.5, length-append f.bytes g.4)) g.6,
)

-- the parts of a record that can be written are sound
parts_sound : (r : Record) (fs : List Fragment) → IsWritable r → AreParts r fs → AllByRecursion IsSound fs
parts_sound r [] can p = absurd p
parts_sound r (f ∷ fs) can p = (
  sound f r.index (length r.bytes) (pos r.stream) p.0 p.1 p.2 can.index_from can.index_to (pos_fits r.stream can.stream_to) can.size_to,
  go_on_sound r.index r.stream p.3 fs can.index_from can.index_to can.stream_to (omega (arith, can.size_to, ap length p.4, length-append f.bytes p.3)) p.5,
)

-- the fragments of a cut of records that can be written are sound
pub cut_is_sound : (records : List Record) (fs : List Fragment) → AllByRecursion IsWritable records → IsCut records fs → AllByRecursion IsSound fs
cut_is_sound [] fs can cut = rw cut tt
cut_is_sound (r ∷ rs) fs can cut =
    subst (λ (gs : List Fragment). AllByRecursion IsSound gs) (sym cut.2)
    (all_append IsSound cut.0 cut.1 (parts_sound r cut.0 can.0 cut.3) (cut_is_sound rs cut.1 can.1 cut.4))

-- ---- the header

-- the numbers of the session have four bytes each
pub record IsKey (key : SessionKey) : Type 0 where
  pub id_to : key.id < 2 ^ 32
  pub time_to : key.time < 2 ^ 32

-- a header of a valid size, whose numbers have four bytes each
pub record IsHeader (h : Header) : Type 0 where
  pub checksum_to : h.checksum < 2 ^ 32
  pub size_from : header_length h.session ≤ h.size
  pub size_to : h.size ≤ 4194304
  pub number_to : h.number < 2 ^ 32
  pub session_is : (key : SessionKey) → h.session ≡ Some key → IsKey key

-- a header is known by its three numbers and its session
same_header : (h : Header) (a b c : ℕ) (session : Option SessionKey) → a ≡ h.checksum → b ≡ h.size → c ≡ h.number → session ≡ h.session
    → ◌≡◌ {A = Header} (record { checksum = a; size = b; number = c; session = session }) h
same_header h a b c session p q r s = rw (p, q, r, s) refl

-- a key is known by its two numbers
key_is : (key other : SessionKey) → other.id ≡ key.id → other.time ≡ key.time → key ≡ other
key_is key other p q = rw (← p, ← q) refl

-- a header with a session or without one
abbrev header_under : Header → Option SessionKey → Header
header_under h session = record { checksum = h.checksum; size = h.size; number = h.number; session = session }

-- the session is read from a header's bytes, whatever follows them
session_under : (h : Header) (session : Option SessionKey) (more : List ℕ) → ((key : SessionKey) → session ≡ Some key → IsKey key) → session_of (header_bytes (header_under h session) ++ more) ≡ session
unfolding header_bytes
session_under h None more is = refl
session_under h (Some key) more is =
    let fits = is key refl in
    rw (from_be_bytes-to_be_bytes_4 key.id fits.id_to, from_be_bytes-to_be_bytes_4 key.time fits.time_to) refl

pub session_is_read : (h : Header) (more : List ℕ) → IsHeader h → session_of (header_bytes h ++ more) ≡ h.session
session_is_read h more is = session_under h h.session more is.session_is

-- the numbers of a header are read from its bytes
numbers_are_read : (h : Header) (more : List ℕ) → IsHeader h
    → (u32_at 0 (header_bytes h ++ more) ≡ h.checksum) × (u32_at 4 (header_bytes h ++ more) ≡ h.size) × (u32_at 8 (header_bytes h ++ more) ≡ h.number)
unfolding header_bytes
numbers_are_read h more is =
    (from_be_bytes-to_be_bytes_4 h.checksum is.checksum_to, from_be_bytes-to_be_bytes_4 h.size (omega (arith, is.size_to)), from_be_bytes-to_be_bytes_4 h.number is.number_to)

-- a header has as many bytes as one with its session, or without one, has
length_under : (h : Header) (session : Option SessionKey) (more : List ℕ) → length (header_bytes (header_under h session) ++ more) ≡ header_length session + length more
unfolding header_bytes
length_under h None more = omega arith
length_under h (Some key) more = omega arith

pub length-header_bytes : (h : Header) (more : List ℕ) → length (header_bytes h ++ more) ≡ header_length h.session + length more
length-header_bytes h more = length_under h h.session more

letters_under : (h : Header) (session : Option SessionKey) (more : List ℕ)
    → (has_letters older_letters (header_bytes (header_under h session) ++ more) || has_letters letters (header_bytes (header_under h session) ++ more)) ≡ true
unfolding header_bytes
letters_under h None more = refl
letters_under h (Some key) more = refl

letters_are_there : (h : Header) (more : List ℕ) → (has_letters older_letters (header_bytes h ++ more) || has_letters letters (header_bytes h ++ more)) ≡ true
letters_are_there h more = letters_under h h.session more

-- a header that is valid is read, whatever follows it
pub header_is_read : (h : Header) (more : List ℕ) → IsHeader h → read_header (header_bytes h ++ more) ≡ Ok h
unfolding read_header
header_is_read h more is =
    let bytes = header_bytes h ++ more in
    let least = header_length h.session in
    let n = numbers_are_read h more is in
    let session = session_is_read h more is in
    let size = length-header_bytes h more in
    let lettered : ltb (length bytes) 16 ≡ false = le-ltb (length bytes) 16 (omega (arith, size, at_least_16 h.session)) in
    let long : ltb (length bytes) least ≡ false = le-ltb (length bytes) least (omega (arith, size)) in
    let low : ltb (u32_at 4 bytes) least ≡ false = le-ltb (u32_at 4 bytes) least (omega (arith, n.1, is.size_from)) in
    let high : ltb 4194304 (u32_at 4 bytes) ≡ false = le-ltb 4194304 (u32_at 4 bytes) (omega (arith, n.1, is.size_to)) in
    rw (lettered, letters_are_there h more, session, long, low, high) (ap (λ (g : Header). Ok g) (same_header h _ _ _ _ n.0 n.1 n.2 refl))

-- the header of a written block
abbrev pub header_of : SessionKey → ℕ × List Fragment → Header
header_of key block = record { checksum = 0; size = block_size block.1; number = block.0 % 2 ^ 32; session = Some key }

-- the header of a written block is valid
written_is_header : (key : SessionKey) (block : ℕ × List Fragment) → IsKey key → block_size block.1 ≤ 4194304 → IsHeader (header_of key block)
written_is_header key block is to = record {
  checksum_to = omega arith;
  size_from = omega arith;
  size_to = to;
  number_to = mod_below block.0 (2 ^ 32) (omega arith);
  session_is = λ other e. subst IsKey (same_Some key other e) is;
}

-- the block is read with its header
pub written_header : (key : SessionKey) (block : ℕ × List Fragment) → IsKey key → block_size block.1 ≤ 4194304
    → read_header (written_block key block) ≡ Ok (header_of key block)
written_header key block is to = header_is_read (header_of key block) (flat_map fragment_bytes block.1) (written_is_header key block is to)

-- the length of fragments, as the size of a block counts it
pub length-fragments : (fs : List Fragment) → length (flat_map fragment_bytes fs) ≡ sum_by (λ (f : Fragment). 12 + length f.bytes) fs
length-fragments [] = refl
length-fragments (f ∷ fs) =
    length-fragment_bytes f (flat_map fragment_bytes fs) ∙ ap (λ n. 12 + length f.bytes + n) (length-fragments fs) ∙ sym (sum_by-cons (λ (g : Fragment). 12 + length g.bytes) f fs)

-- the block is as long as its header says
pub length-written_block : (key : SessionKey) (block : ℕ × List Fragment) → length (written_block key block) ≡ block_size block.1
length-written_block key block =
    length-header_bytes (header_of key block) (flat_map fragment_bytes block.1) ∙ ap (λ n. 24 + n) (length-fragments block.1)

-- ---- the fragments

-- what is after the header of a block
behind_under : (h : Header) (session : Option SessionKey) (more : List ℕ) → drop (header_length session) (header_bytes (header_under h session) ++ more) ≡ more
unfolding header_bytes
behind_under h None more = refl
behind_under h (Some key) more = refl

pub behind_header : (h : Header) (more : List ℕ) → drop (header_length h.session) (header_bytes h ++ more) ≡ more
behind_header h more = behind_under h h.session more

-- each fragment but the last has all its data, and nothing follows the last
written_are_filled : (fs : List Fragment) → AreWritten fs → AreFilled fs []
written_are_filled [] written = tt
written_are_filled (f ∷ []) written =
    elim (cases_lt (length f.bytes) f.size) [
      | inl lt ↦ inr (lt, refl)
      | inr le ↦ inl (omega (arith, le, written.0))
    ]
written_are_filled (f ∷ g ∷ more) written = (written.0, written_are_filled (g ∷ more) written.1)

-- blocks of a session may contain its sound fragments
each_of_session : (key : SessionKey) (fs : List Fragment) → AllByRecursion (λ (f : Fragment). f.session ≡ key) fs → AllByRecursion IsSound fs → AllByRecursion (IsFragmentOf (Some key)) fs
each_of_session key [] of_session sound = tt
each_of_session key (f ∷ fs) of_session sound = (
  record { session_is = of_session.0; index_fits = sound.0.index_fits; stream_fits = sound.0.stream_fits; size_fits = sound.0.size_fits },
  each_of_session key fs of_session.1 sound.1,
)

-- a block with a valid header is read as the fragments that follow it
pub fragments_behind : (h : Header) (fs : List Fragment) → IsHeader h → AreFilled fs [] → AllByRecursion (IsFragmentOf h.session) fs
    → fragments_of (header_bytes h ++ flat_map (spelling h.session) fs) ≡ fs
fragments_behind h fs is filled each =
    let body = flat_map (spelling h.session) fs in
    let session = session_is_read h body is in
    fragments_read_as (header_bytes h ++ body) h.session fs [] session (behind_header h body ∙ sym (append-nil body)) (omega (arith, at_least_12 h.session)) filled each

-- the fragments of a written block are those that it was written of
pub written_fragments : (key : SessionKey) (block : ℕ × List Fragment) → IsKey key → block_size block.1 ≤ 4194304 → AreWritten block.1
    → AllByRecursion (λ (f : Fragment). f.session ≡ key) block.1 → AllByRecursion IsSound block.1 → fragments_of (written_block key block) ≡ block.1
written_fragments key block is to written of_session sound =
    fragments_behind (header_of key block) block.1 (written_is_header key block is to) (written_are_filled block.1 written) (each_of_session key block.1 of_session sound)
