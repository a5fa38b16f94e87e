-- The records of saved files make these files, and no others.
use Rattle.std.proofs.Common.{◌≡◌, ℕ, zero, suc, ◌+◌, ◌-◌, ◌*◌, ◌/◌, ◌^◌, ◌<◌, ◌≤◌, Bool, true, false, not, ◌&&◌, ◌||◌, cond, ltb, eqb, leb, List, [], ◌∷◌, ◌++◌, length, map, filter, take, drop, Result, Ok, refl, sym, ap, ◌∙◌, arith}
use Rattle.std.proofs.lemmas.Bool.{eqb-true, eq-eqb, ne_eqb, leb-true, ltb-false, le-ltb, and_parts, not-false}
use Rattle.std.proofs.lemmas.List.{append-nil, length-append, length-drop, length-take, nil_from_length, take-append-drop, length-map}
use Rattle.std.proofs.lemmas.List.Elements.{filter-append}
use Rattle.std.proofs.lemmas.Fmt.{length-decimal-le_succ}
use Rattle.std.proofs.lemmas.Slice.Eq.{bytes_eq-Decides}
use Rattle.std.specs.Prelude.{ℤ, pos, negsuc, flat_map, decimal, slice_index, count_by, if◌then◌else◌}
use Rattle.std.specs.Int.{w32, to_le_bytes, is_in_range}
use Rattle.std.specs.List.{AllByRecursion, enumerate_from, list_all, join_with_byte}
use Rattle.md5.specs.Md5.{md5, digest_bytes}
use Rattle.br_model.specs.Answer.{◌>>=◌, refuse_if, refused_as}
use Rattle.br_model.specs.Text.{is_empty}
use Rattle.br_model.specs.Number.{write_number, write_magnitude, without_zeros, digit_at}
use Rattle.br_model.specs.Name.{is_path}
use Rattle.br_model.specs.Attribute.{Stat, Attributes, CanBeWritten, stat_numbers, write_stat, write_attributes}
use Rattle.br_model.specs.Record.{Record}
use Rattle.br_model.specs.File.{Item, Extent, extent_of, extents_from, bytes_from, is_stream, is_data, is_supported, is_skipped, checks_digest, has_bytes, attributes_of, unsupported, digest_fits, file_bytes, content}
use Rattle.br_model.specs.Job.{SavedFile}
use Rattle.br_model.specs.Stored.{MakesFile}
use Rattle.br_model.specs.Session.{ToSave, can_be_saved, checked_file, data_records, has_digest, attributes_of_saved, file_records, session_records}
use Rattle.br_model.specs.SessionHolds.{IsToSave}
use Rattle.br_model.proofs.AnswerLaws.{refuse_ok}
use Rattle.br_model.proofs.AttributeLaws.{attributes_read_back_lem}
use Rattle.br_model.proofs.CutLaws.{is_of_index}
use Rattle.br_model.proofs.WrittenBlockLaws.{IsWritable}
use Rattle.br_model.proofs.WrittenVolumeLaws.{in_range}
use Rattle.br_model.proofs.ListLaws.{all_any, all_append, all_map, all_weaker, keeps_all, keeps_none}

-- ---- what a file that can be saved is

-- the type is 1 to 5, only types 2 and 3 have bytes, at most 2 ^ 30, and the link text is short and has no NUL
pub record IsSavable (f : SavedFile) : Type 0 where
  pub kind_from : 1 ≤ f.kind
  pub kind_to : f.kind ≤ 5
  pub bytes_none : has_bytes f.kind ≡ false → f.bytes ≡ []
  pub bytes_to : length f.bytes ≤ 2 ^ 30
  pub link_to : length f.link ≤ 4096
  pub link_is : list_all (λ c. not (eqb c 0)) f.link ≡ true

-- a file that can be saved and has no bytes by its type has none
nothing : (kind : ℕ) (bytes : List ℕ) → (eqb kind 3 || is_empty bytes) ≡ true → has_bytes kind ≡ false → bytes ≡ []
nothing kind bytes e none = nil_from_length bytes (eqb-true (length bytes) 0 (go (eqb kind 2) (eqb kind 3) e none))
  where
    go : (a b : Bool) → (b || is_empty bytes) ≡ true → (a || b) ≡ false → is_empty bytes ≡ true
    go true b p q = absurd cc
    go false true p q = absurd cc
    go false false p q = p

-- a file that is not refused can be saved
pub checked_is_savable : (f : SavedFile) → checked_file f ≡ Ok f → IsSavable f
unfolding checked_file can_be_saved
checked_is_savable f e =
    let last : Unit {0} → Result SavedFile ℕ = λ _. Ok f in
    let next : Unit {0} → Result SavedFile ℕ = λ _. refuse_if (not (can_be_saved f)) 17 >>= last in
    let a = refuse_ok (ltb (2 ^ 30) (length f.bytes)) 15 next f e in
    let b = refuse_ok (not (can_be_saved f)) 17 last f a.1 in
    let all = and_parts _ _ (not-false (can_be_saved f) b.0) in
    let but_link = and_parts _ _ all.0 in
    let but_length = and_parts _ _ but_link.0 in
    let but_none = and_parts _ _ but_length.0 in
    let kind = and_parts (leb 1 f.kind) (leb f.kind 5) (and_parts _ _ but_none.0).0 in
    record {
      kind_from = leb-true 1 f.kind kind.0;
      kind_to = leb-true f.kind 5 kind.1;
      bytes_none = nothing f.kind f.bytes but_none.1;
      bytes_to = ltb-false (2 ^ 30) (length f.bytes) a.0;
      link_to = leb-true (length f.link) 4096 but_link.1;
      link_is = all.1;
    }

-- the attributes of a saved file can be written
pub saved_can_be_written : (index : ℕ) (f : ToSave) → 1 ≤ index → index < 2 ^ 31 → IsToSave f → CanBeWritten (attributes_of_saved index f.file)
saved_can_be_written index f from to is =
    let can = checked_is_savable f.file is.can_be in
    record {
      index_from = from;
      index_to = to;
      kind_from = can.kind_from;
      kind_to = omega (arith, can.kind_to);
      path_is = is.path_is;
      numbers = is.numbers;
      link_is = can.link_is;
    }

-- ---- how long records are

-- a path has at most 4096 bytes
pub path_is_short : (path : List ℕ) → is_path path ≡ true → length path ≤ 4096
unfolding is_path
path_is_short path e = leb-true (length path) 4096 (and_parts _ _ (and_parts _ _ (and_parts _ _ e).0).0).1

-- without the zeros at their front digits are no more
fewer_digits : (ds : List ℕ) → length (without_zeros ds) ≤ length ds
unfolding without_zeros
fewer_digits [] = omega arith
fewer_digits (d ∷ []) = omega arith
fewer_digits (d ∷ e ∷ ds) = go (eqb d 65) (fewer_digits (e ∷ ds))
  where
    go : (b : Bool) → length (without_zeros (e ∷ ds)) ≤ length (e ∷ ds) → length (cond b (without_zeros (e ∷ ds)) (d ∷ e ∷ ds)) ≤ length (d ∷ e ∷ ds)
    go true h = omega (arith, h)
    go false h = omega arith

magnitude_is_short : (n : ℕ) → length (write_magnitude n) ≤ 11
unfolding write_magnitude
magnitude_is_short n = fewer_digits (map (digit_at n) (10 ∷ 9 ∷ 8 ∷ 7 ∷ 6 ∷ 5 ∷ 4 ∷ 3 ∷ 2 ∷ 1 ∷ 0 ∷ []))

-- a number is written in at most 12 bytes
number_is_short : (z : ℤ) → length (write_number z) ≤ 12
unfolding write_number
number_is_short (pos n) = omega (arith, magnitude_is_short n)
number_is_short (negsuc n) = omega (arith, magnitude_is_short (n + 1))

-- texts of at most 12 bytes, with a byte between each two, have at most 13 bytes each
joined_are_short : (c : ℕ) (parts : List (List ℕ)) → AllByRecursion (λ (part : List ℕ). length part ≤ 12) parts → length (join_with_byte c parts) ≤ 13 * length parts
joined_are_short c [] all = omega arith
joined_are_short c (p ∷ []) all = omega (arith, all.0)
joined_are_short c (p ∷ q ∷ more) all = omega (arith, all.0, joined_are_short c (q ∷ more) all.1, length-append p (c ∷ join_with_byte c (q ∷ more)))

-- the numbers of a file are written in at most 14 * 13 bytes
stat_is_short : (s : Stat) → length (write_stat s) ≤ 182
unfolding write_stat
stat_is_short s =
    joined_are_short 32 (map write_number (stat_numbers s))
    (all_map (λ (part : List ℕ). length part ≤ 12) write_number (stat_numbers s) (all_any (λ z. length (write_number z) ≤ 12) number_is_short (stat_numbers s)))

-- the length of the five fields of attributes, each with its end byte
length_of_text : (a b c d e : List ℕ) → length (a ++ 32 ∷ b ++ 32 ∷ c ++ 0 ∷ d ++ 0 ∷ e ++ 0 ∷ []) ≡ length a + length b + length c + length d + length e + 5
length_of_text a b c d e = simp length-append (omega arith)

-- what is written of attributes is short
pub attributes_are_short : (index : ℕ) (f : ToSave) → index < 2 ^ 31 → IsToSave f → length (write_attributes (attributes_of_saved index f.file)) < 2 ^ 32
unfolding write_attributes
attributes_are_short index f to is =
    let can = checked_is_savable f.file is.can_be in
    let number : length (decimal index) ≤ index + 1 = length-decimal-le_succ index (omega (arith, to)) in
    let kind : length (decimal f.file.kind) ≤ f.file.kind + 1 = length-decimal-le_succ f.file.kind (omega (arith, can.kind_to)) in
    let path = path_is_short f.file.path is.path_is in
    let stat = stat_is_short f.file.stat in
    let all = length_of_text (decimal index) (decimal f.file.kind) f.file.path (write_stat f.file.stat) f.file.link in
    omega (arith, to, number, kind, path, stat, can.kind_to, can.link_to, all)

-- a digest has four bytes for each word
length_of_digest : (h : List ℕ) (n : ℕ) → length (digest_bytes h n) ≡ n * 4
unfolding digest_bytes
length_of_digest h zero = refl
length_of_digest h (suc n) = omega (arith, length_of_digest h n, length-append (digest_bytes h n) (to_le_bytes w32 (slice_index h n)))

length_of_md5 : (bytes : List ℕ) → length (md5 bytes) ≡ 16
unfolding md5
length_of_md5 bytes = length_of_digest _ 4

-- ---- the records of one file

-- the attribute record of a file, its data records, and its digest record if it has one
abbrev attributes_part : ℕ → ToSave → Record
attributes_part index f = record { index = index; stream = 1; bytes = write_attributes (attributes_of_saved index f.file) }

abbrev data_part : ℕ → ToSave → List Record
data_part index f = data_records index (length f.file.bytes / 65536 + 1) f.file.bytes

abbrev digest_part : ℕ → ToSave → List Record
digest_part index f = if has_digest f then record { index = index; stream = 3; bytes = md5 f.file.bytes } ∷ [] else []

-- what holds of a data record with at most 65536 bytes holds of each
data_all : (P : Record → Type 0) (index : ℕ) → ((bytes : List ℕ) → length bytes ≤ 65536 → P (record { index = index; stream = 2; bytes = bytes })) → (n : ℕ) (bytes : List ℕ)
    → AllByRecursion P (data_records index n bytes)
unfolding data_records
data_all P index of_data zero bytes = tt
data_all P index of_data (suc n) bytes = go (is_empty bytes) (data_all P index of_data n (drop 65536 bytes))
  where
    go : (b : Bool) → AllByRecursion P (data_records index n (drop 65536 bytes))
        → AllByRecursion P (cond b [] (record { index = index; stream = 2; bytes = take 65536 bytes } ∷ data_records index n (drop 65536 bytes)))
    go true rest = tt
    go false rest = (of_data (take 65536 bytes) (omega (arith, length-take 65536 bytes)), rest)

data_part_all : (P : Record → Type 0) (index : ℕ) (f : ToSave) → ((bytes : List ℕ) → length bytes ≤ 65536 → P (record { index = index; stream = 2; bytes = bytes }))
    → AllByRecursion P (data_part index f)
data_part_all P index f of_data = data_all P index of_data (length f.file.bytes / 65536 + 1) f.file.bytes

-- what holds of the digest record holds of it if there is one
digest_part_all : (P : Record → Type 0) (index : ℕ) (f : ToSave) → P (record { index = index; stream = 3; bytes = md5 f.file.bytes }) → AllByRecursion P (digest_part index f)
digest_part_all P index f of_digest = go (has_digest f)
  where
    go : (b : Bool) → AllByRecursion P (cond b (record { index = index; stream = 3; bytes = md5 f.file.bytes } ∷ []) [])
    go true = (of_digest, tt)
    go false = tt

-- what holds of each kind of record holds of all records of a file
file_all : (P : Record → Type 0) (index : ℕ) (f : ToSave) → P (attributes_part index f) → ((bytes : List ℕ) → length bytes ≤ 65536 → P (record { index = index; stream = 2; bytes = bytes }))
    → P (record { index = index; stream = 3; bytes = md5 f.file.bytes }) → AllByRecursion P (file_records (index, f))
unfolding file_records
file_all P index f of_attributes of_data of_digest =
    (of_attributes, all_append P (data_part index f) (digest_part index f) (data_part_all P index f of_data) (digest_part_all P index f of_digest))

-- the records of a file can be written
pub file_writable : (index : ℕ) (f : ToSave) → 1 ≤ index → index < 2 ^ 31 → IsToSave f → AllByRecursion IsWritable (file_records (index, f))
file_writable index f from to is =
    file_all IsWritable index f
    (record { index_from = from; index_to = to; stream_to = omega arith; size_to = attributes_are_short index f to is })
    (λ bytes le. record { index_from = from; index_to = to; stream_to = omega arith; size_to = omega (arith, le) })
    (record { index_from = from; index_to = to; stream_to = omega arith; size_to = omega (arith, length_of_md5 f.file.bytes) })

-- they have its index
pub file_index : (f : ℕ × ToSave) → AllByRecursion (λ (r : Record). r.index ≡ f.0) (file_records f)
file_index f = file_all (λ (r : Record). r.index ≡ f.0) f.0 f.1 refl (λ bytes le. refl) refl

-- ---- the content

-- the extent of plain data begins at the end so far
plain_extent : (end : ℕ) (r : Record) → is_stream 2 r ≡ true → end + length r.bytes ≤ 2 ^ 30 → extent_of end r ≡ Ok (record { start = end; bytes = r.bytes })
unfolding extent_of
plain_extent end r plain to =
    let fits : ltb (2 ^ 30) (end + length r.bytes) ≡ false = le-ltb (2 ^ 30) (end + length r.bytes) to in
    rw (plain, fits) refl

-- an extent at the end so far, and what comes after it
behind_extent : (end : ℕ) (chunk rest bytes : List ℕ) (es : List Extent) → bytes_from (end + length chunk) es ≡ rest → chunk ++ rest ≡ bytes
    → bytes_from end (record { start = end; bytes = chunk } ∷ es) ≡ bytes
unfolding bytes_from
behind_extent end chunk rest bytes es more joined =
    let none : end - end ≡ 0 = omega arith in
    rw (none, more) joined

-- data records have extents, whose bytes are those that they were made of
data_are_read : (index n end : ℕ) (bytes : List ℕ) → length bytes ≤ 65536 * n → end + length bytes ≤ 2 ^ 30
    → (es : List Extent) × (extents_from end (data_records index n bytes) ≡ Ok es) × (bytes_from end es ≡ bytes)
unfolding data_records extents_from bytes_from
data_are_read index zero end bytes few to = ([], refl, sym (nil_from_length bytes (omega (arith, few))))
data_are_read index (suc n) end bytes few to =
    go (is_empty bytes) refl (data_are_read index n (end + length (take 65536 bytes)) (drop 65536 bytes))
  where
    chunk : List ℕ
    chunk = take 65536 bytes

    rest : List ℕ
    rest = drop 65536 bytes

    r : Record
    r = record { index = index; stream = 2; bytes = chunk }

    parted : length chunk + length rest ≡ length bytes
    parted = omega (arith, length-take 65536 bytes, length-drop 65536 bytes)

    IsRead : List ℕ → ℕ → List Record → Type 0
    IsRead xs at rs = (es : List Extent) × (extents_from at rs ≡ Ok es) × (bytes_from at es ≡ xs)

    go : (b : Bool) → is_empty bytes ≡ b → (length rest ≤ 65536 * n → end + length chunk + length rest ≤ 2 ^ 30 → IsRead rest (end + length chunk) (data_records index n rest))
        → (es : List Extent) × (extents_from end (cond b [] (r ∷ data_records index n rest)) ≡ Ok es) × (bytes_from end es ≡ bytes)
    go true e again = ([], refl, sym (nil_from_length bytes (eqb-true (length bytes) 0 e)))
    go false e again =
        let more = again (omega (arith, few, length-drop 65536 bytes)) (omega (arith, parted, to)) in
        let here = plain_extent end r refl (omega (arith, parted, to)) in (
          record { start = end; bytes = chunk } ∷ more.0,
          rw (here, more.1) refl,
          behind_extent end chunk rest bytes more.0 more.2 (take-append-drop 65536 bytes),
        )

-- records of supported streams are not refused
all_supported : (rs : List Record) → AllByRecursion (λ (r : Record). is_supported r ≡ true) rs → unsupported rs ≡ Ok tt
unfolding unsupported
all_supported [] all = refl
all_supported (r ∷ rs) all = rw all.0 (all_supported rs all.1)

-- the content of records, step by step
content_is : (index : ℕ) (rs : List Record) (a : Attributes) (bytes : List ℕ) → attributes_of index (filter (is_stream 1) rs) ≡ Ok a → unsupported rs ≡ Ok tt → file_bytes a.kind rs ≡ Ok bytes
    → (checks_digest a.kind rs && not (digest_fits (filter (is_stream 3) rs) bytes)) ≡ false
    → content index rs ≡ Ok (record { path = a.path; kind = a.kind; stat = a.stat; link = a.link; bytes = bytes; skipped = count_by (is_skipped a.kind (checks_digest a.kind rs)) rs })
unfolding content
content_is index rs a bytes p q r s = rw (p, q, r, s) refl

-- the records of a file by their streams
attributes_alone : (index : ℕ) (f : ToSave) → filter (is_stream 1) (file_records (index, f)) ≡ attributes_part index f ∷ []
unfolding file_records
attributes_alone index f =
    let fails = λ (r : Record). is_stream 1 r ≡ false in
    let others = data_part index f ++ digest_part index f in
    let none = all_append fails (data_part index f) (digest_part index f) (data_part_all fails index f (λ bytes le. refl)) (digest_part_all fails index f refl) in
    ap (λ (rs : List Record). attributes_part index f ∷ rs) (keeps_none (is_stream 1) others none)

data_alone : (index : ℕ) (f : ToSave) → filter is_data (file_records (index, f)) ≡ data_part index f
unfolding file_records
data_alone index f =
    let all = keeps_all is_data (data_part index f) (data_part_all (λ (r : Record). is_data r ≡ true) index f (λ bytes le. refl)) in
    let none = keeps_none is_data (digest_part index f) (digest_part_all (λ (r : Record). is_data r ≡ false) index f refl) in
    filter-append is_data (data_part index f) (digest_part index f) ∙ ap (λ (rs : List Record). rs ++ filter is_data (digest_part index f)) all
    ∙ ap (λ (rs : List Record). data_part index f ++ rs) none ∙ append-nil (data_part index f)

digest_alone : (index : ℕ) (f : ToSave) → filter (is_stream 3) (file_records (index, f)) ≡ digest_part index f
unfolding file_records
digest_alone index f =
    let none = keeps_none (is_stream 3) (data_part index f) (data_part_all (λ (r : Record). is_stream 3 r ≡ false) index f (λ bytes le. refl)) in
    let all = keeps_all (is_stream 3) (digest_part index f) (digest_part_all (λ (r : Record). is_stream 3 r ≡ true) index f refl) in
    filter-append (is_stream 3) (data_part index f) (digest_part index f) ∙ ap (λ (rs : List Record). rs ++ filter (is_stream 3) (digest_part index f)) none ∙ all

-- the digest fits the bytes, or there is none
digest_is_right : (index : ℕ) (f : ToSave) → digest_fits (digest_part index f) f.file.bytes ≡ true
unfolding digest_fits
digest_is_right index f = go (has_digest f)
  where
    go : (b : Bool) → digest_fits (cond b (record { index = index; stream = 3; bytes = md5 f.file.bytes } ∷ []) []) f.file.bytes ≡ true
    go true = (bytes_eq-Decides (md5 f.file.bytes) (md5 f.file.bytes)).1 refl
    go false = refl

-- a file whose digest fits is not refused for it
not_refused : (a b : Bool) → b ≡ true → (a && not b) ≡ false
not_refused true b e = rw e refl
not_refused false b e = refl

-- the records of a saved file have its bytes
bytes_are_read : (index : ℕ) (f : ToSave) → IsSavable f.file → file_bytes f.file.kind (file_records (index, f)) ≡ Ok f.file.bytes
unfolding file_bytes
bytes_are_read index f can = go (has_bytes f.file.kind) refl
  where
    read : (es : List Extent) × (extents_from 0 (data_part index f) ≡ Ok es) × (bytes_from 0 es ≡ f.file.bytes)
    read = data_are_read index (length f.file.bytes / 65536 + 1) 0 f.file.bytes (omega arith) (omega (arith, can.bytes_to))

    go : (b : Bool) → has_bytes f.file.kind ≡ b
        → cond (not b) (Ok []) (extents_from 0 (filter is_data (file_records (index, f))) >>= λ es. Ok (bytes_from 0 es)) ≡ Ok f.file.bytes
    go true e = rw (data_alone index f, read.1, read.2) refl
    go false e = ap (λ (xs : List ℕ). Ok xs) (sym (can.bytes_none e))

-- the records of a saved file make it
pub file_is_made : (index : ℕ) (f : ToSave) → 1 ≤ index → index < 2 ^ 31 → IsToSave f
    → (item : Item) × (content index (file_records (index, f)) ≡ Ok item)
    × (f.file ≡ record { path = item.path; kind = item.kind; stat = item.stat; link = item.link; bytes = item.bytes })
unfolding attributes_of
file_is_made index f from to is =
    let a = attributes_of_saved index f.file in
    let rs = file_records (index, f) in
    let can = checked_is_savable f.file is.can_be in
    let one : attributes_of index (filter (is_stream 1) rs) ≡ Ok a =
    ap (attributes_of index) (attributes_alone index f) ∙ ap (refused_as (λ _. 64)) (attributes_read_back_lem a (saved_can_be_written index f from to is)) in
    let supported = all_supported rs (file_all (λ (r : Record). is_supported r ≡ true) index f refl (λ bytes le. refl) refl) in
    let digest : (checks_digest f.file.kind rs && not (digest_fits (filter (is_stream 3) rs) f.file.bytes)) ≡ false =
    not_refused (checks_digest f.file.kind rs) (digest_fits (filter (is_stream 3) rs) f.file.bytes)
    (ap (λ (ds : List Record). digest_fits ds f.file.bytes) (digest_alone index f) ∙ digest_is_right index f) in (
      record {
        path = f.file.path;
        kind = f.file.kind;
        stat = f.file.stat;
        link = f.file.link;
        bytes = f.file.bytes;
        skipped = count_by (is_skipped f.file.kind (checks_digest f.file.kind rs)) rs;
      },
      content_is index rs a f.file.bytes one supported (bytes_are_read index f can) digest,
      refl,
    )

-- ---- the records of all files

-- the records of files that are numbered from a number on
abbrev pub records_from : ℕ → List ToSave → List Record
records_from n files = flat_map file_records (enumerate_from n files)

-- each can be written
pub records_writable : (n : ℕ) (files : List ToSave) → 1 ≤ n → n + length files ≤ 2 ^ 31 → AllByRecursion IsToSave files → AllByRecursion IsWritable (records_from n files)
records_writable n [] from to are = tt
records_writable n (f ∷ files) from to are =
    all_append IsWritable (file_records (n, f)) (records_from (n + 1) files) (file_writable n f from (omega (arith, to)) are.0)
    (records_writable (n + 1) files (omega arith) (omega (arith, to)) are.1)

-- each has the number of a file
pub records_within : (n : ℕ) (files : List ToSave) → AllByRecursion (λ (r : Record). (n ≤ r.index) × (r.index < n + length files)) (records_from n files)
records_within n [] = tt
records_within n (f ∷ files) =
    all_append (λ (r : Record). (n ≤ r.index) × (r.index < n + length (f ∷ files))) (file_records (n, f)) (records_from (n + 1) files)
    (all_weaker (λ (r : Record). r.index ≡ n) (λ (r : Record). (n ≤ r.index) × (r.index < n + length (f ∷ files))) (λ r e. (omega (arith, e), omega (arith, e))) (file_records (n, f)) (file_index (n, f)))
    (all_weaker (λ (r : Record). (n + 1 ≤ r.index) × (r.index < n + 1 + length files)) (λ (r : Record). (n ≤ r.index) × (r.index < n + length (f ∷ files)))
    (λ r is. (omega (arith, is.0), omega (arith, is.1))) (records_from (n + 1) files) (records_within (n + 1) files))

-- those of one number are the records of its file
pub records_of_file : (n : ℕ) (files : List ToSave)
    → AllByRecursion (λ (f : ℕ × ToSave). (n ≤ f.0) × (filter (is_of_index f.0) (records_from n files) ≡ file_records f)) (enumerate_from n files)
records_of_file n [] = tt
records_of_file n (f ∷ files) =
    let later = records_from (n + 1) files in
    let own : filter (is_of_index n) (file_records (n, f)) ≡ file_records (n, f) =
    keeps_all (is_of_index n) (file_records (n, f))
    (all_weaker (λ (r : Record). r.index ≡ n) (λ (r : Record). is_of_index n r ≡ true) (λ r e. eq-eqb r.index n e) (file_records (n, f)) (file_index (n, f))) in
    let others : filter (is_of_index n) later ≡ [] =
    keeps_none (is_of_index n) later
    (all_weaker (λ (r : Record). (n + 1 ≤ r.index) × (r.index < n + 1 + length files)) (λ (r : Record). is_of_index n r ≡ false)
    (λ r is. ne_eqb r.index n (λ e. omega (arith, e, is.0))) later (records_within (n + 1) files)) in
    let first : filter (is_of_index n) (file_records (n, f) ++ later) ≡ file_records (n, f) =
    filter-append (is_of_index n) (file_records (n, f)) later ∙ ap (λ (rs : List Record). rs ++ filter (is_of_index n) later) own
    ∙ ap (λ (rs : List Record). file_records (n, f) ++ rs) others ∙ append-nil (file_records (n, f)) in
    let not_here : (g : ℕ × ToSave) → n + 1 ≤ g.0 → filter (is_of_index g.0) (file_records (n, f)) ≡ [] =
    λ g after. keeps_none (is_of_index g.0) (file_records (n, f))
    (all_weaker (λ (r : Record). r.index ≡ n) (λ (r : Record). is_of_index g.0 r ≡ false) (λ r e. ne_eqb r.index g.0 (λ same. omega (arith, e, same, after))) (file_records (n, f)) (file_index (n, f))) in
    let behind : (g : ℕ × ToSave) → (n + 1 ≤ g.0) × (filter (is_of_index g.0) later ≡ file_records g)
    → (n ≤ g.0) × (filter (is_of_index g.0) (file_records (n, f) ++ later) ≡ file_records g) =
    λ g is. (
      omega (arith, is.0),
      filter-append (is_of_index g.0) (file_records (n, f)) later ∙ ap (λ (rs : List Record). rs ++ filter (is_of_index g.0) later) (not_here g is.0) ∙ is.1,
    ) in (
      (omega arith, first),
      all_weaker (λ (g : ℕ × ToSave). (n + 1 ≤ g.0) × (filter (is_of_index g.0) later ≡ file_records g))
          (λ (g : ℕ × ToSave). (n ≤ g.0) × (filter (is_of_index g.0) (file_records (n, f) ++ later) ≡ file_records g)) behind (enumerate_from (n + 1) files) (records_of_file (n + 1) files),
    )

-- the saved files
abbrev pub saved_of : List ToSave → List SavedFile
saved_of files = map (λ (f : ToSave). f.file) files

-- records of which those of each number are the records of its file make the saved files
made_from : (records : List Record) (n : ℕ) (files : List ToSave) → 1 ≤ n → n + length files ≤ 2 ^ 31 → AllByRecursion IsToSave files
    → AllByRecursion (λ (f : ℕ × ToSave). filter (is_of_index f.0) records ≡ file_records f) (enumerate_from n files)
    → AllByRecursion (MakesFile records) (enumerate_from n (saved_of files))
made_from records n [] from to are say = tt
made_from records n (f ∷ files) from to are say =
    let made = file_is_made n f from (omega (arith, to)) are.0 in
    ((made.0, ap (content n) say.0 ∙ made.1, made.2), made_from records (n + 1) files (omega arith) (omega (arith, to)) are.1 say.1)

-- the records of a session make its saved files
pub files_are_made : (files : List ToSave) → length files < 2 ^ 31 → AllByRecursion IsToSave files
    → AllByRecursion (MakesFile (session_records files)) (enumerate_from 1 (saved_of files))
files_are_made files few are =
    made_from (session_records files) 1 files (omega arith) (omega (arith, few)) are
    (all_weaker (λ (f : ℕ × ToSave). (1 ≤ f.0) × (filter (is_of_index f.0) (session_records files) ≡ file_records f))
    (λ (f : ℕ × ToSave). filter (is_of_index f.0) (session_records files) ≡ file_records f) (λ f is. is.1) (enumerate_from 1 files) (records_of_file 1 files))

-- each record of a session is of one of its files
pub no_other_files : (files : List ToSave) → AllByRecursion (λ (r : Record). is_in_range 1 (length (saved_of files)) r.index ≡ true) (session_records files)
no_other_files files =
    let many = length-map files (λ (f : ToSave). f.file) in
    all_weaker (λ (r : Record). (1 ≤ r.index) × (r.index < 1 + length files)) (λ (r : Record). is_in_range 1 (length (saved_of files)) r.index ≡ true)
    (λ r is. in_range 1 (length (saved_of files)) r.index is.0 (omega (arith, is.1, many))) (session_records files) (records_within 1 files)
