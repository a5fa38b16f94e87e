-- What is written of a job is read as the job.
use Rattle.std.proofs.Common.{◌∙◌, cond, Err, Some, None, Option, length, ◌≡◌, ℕ, List, [], ◌∷◌, ◌+◌, ◌*◌, ◌^◌, ◌<◌, ◌≤◌, ◌-◌, pos, Bool, true, false, ◌&&◌, ◌==◌, nat_le, nat_lt, Ok, refl, ap, arith}
use Rattle.std.specs.Str.{is_utf8}
use Rattle.std.proofs.lemmas.Bool.{lt-leb, le-leb, lt-ltb, leb-true, ltb-true}
use Rattle.std.proofs.lemmas.Bool.Decides.{Decides-eqb}
use Rattle.sqlite.specs.declared.types.Value.TheVariants.{Int, Text, Blob}
use Rattle.br_model.specs.Name.{is_letter, is_name, is_volume_name, is_path, checked_name, checked_volume_name, checked_path}
use Rattle.br_model.specs.Job.{JobRow, FileRow, Span, is_job_row}
use Rattle.br_catalog_rows.specs.Decode.{small, letter_in, name_in, volume_in, path_in, front, rest, characters, string_in, read_job, job_row, read_span, span_row, read_file, file_row, digest, digest_in, digest_text, IsDigest, if_written, address_in, high, low}
use Rattle.br_model.specs.Text.{is_empty}
use Rattle.hex.specs.Hex.{decode_sized, encode_lower, lower_digits}
use Rattle.hex.proofs.HexLemmas.{length-encode_with, decode_sized-encode_lower}
use Rattle.std.proofs.lemmas.Slice.Eq.{bytes_eq-Decides}
use Rattle.std.specs.Prelude.{bytes_eq}
use Rattle.br_catalog_rows.specs.Inserted.{IsSpan}
use Rattle.br_catalog_rows.proofs.Cuts.{cut_joins}

both : (a b : Bool) → (a && b) ≡ true → (a ≡ true) × (b ≡ true)
both true b h = (refl, h)
both false b h = absurd cc

pub small_ok : (n : ℕ) → n < 2 ^ 32 → small (Int (pos n)) ≡ Ok n
unfolding small
small_ok n below = rw (lt-leb (2 ^ 32) n below) refl

pub letter_ok : (c : ℕ) → is_letter c ≡ true → letter_in (Text (c ∷ [])) ≡ Ok c
unfolding letter_in
letter_ok c is = rw is refl

pub name_ok : (name : List ℕ) → is_name name ≡ true → name_in (Text name) ≡ Ok name
unfolding name_in checked_name
name_ok name is = rw is refl

pub volume_ok : (name : List ℕ) → is_volume_name name ≡ true → volume_in (Text name) ≡ Ok name
unfolding volume_in checked_volume_name
volume_ok name is = rw is refl

pub path_ok : (path : List ℕ) → is_path path ≡ true → path_in (Blob (front path)) (Blob (rest path)) ≡ Ok path
unfolding path_in checked_path
path_ok path is = rw (cut_joins path, is) refl

pub string_ok : (t : List ℕ) → is_utf8 t ≡ true → string_in (Text t) ≡ Ok t
unfolding string_in characters
string_ok t is = rw is refl

some_number : (n : ℕ) → 1 ≤ n → (n == 0) ≡ false
some_number n from = go (n == 0) refl
  where
    go : (b : Bool) → (n == 0) ≡ b → b ≡ false
    go true e = absurd (omega (arith, from, (Decides-eqb n 0).0 e))
    go false e = refl

-- a job's row
pub job_ok : (j : JobRow) → is_job_row j ≡ true → read_job (job_row j) ≡ Ok j
unfolding read_job is_job_row
job_ok j h =
    let i = both _ _ h in
    let g = both _ _ i.0 in
    let f = both _ _ g.0 in
    let e = both _ _ f.0 in
    let d = both _ _ e.0 in
    let c = both _ _ d.0 in
    let b = both _ _ c.0 in
    let a = both _ _ b.0 in
    let ends = both _ _ a.0 in
    let from : 1 ≤ j.id = leb-true 1 j.id ends.0 in
    let to : j.id < 2 ^ 32 = omega (arith, leb-true j.id (2 ^ 32 - 1) ends.1) in
    rw (
      small_ok j.id to,
      some_number j.id from,
      letter_ok j.kind a.1,
      letter_ok j.level b.1,
      name_ok j.client g.1,
      letter_ok j.status c.1,
      name_ok j.fileset i.1,
      small_ok j.session.id (ltb-true j.session.id (2 ^ 32) e.1),
      small_ok j.session.time (ltb-true j.session.time (2 ^ 32) f.1),
    ) refl

-- the number of a job is one of 32 bits
pub id_fits : (j : JobRow) → is_job_row j ≡ true → j.id < 2 ^ 32
unfolding is_job_row
id_fits j h =
    let i = both _ _ h in
    let g = both _ _ i.0 in
    let f = both _ _ g.0 in
    let e = both _ _ f.0 in
    let d = both _ _ e.0 in
    let c = both _ _ d.0 in
    let b = both _ _ c.0 in
    let a = both _ _ b.0 in
    let ends = both _ _ a.0 in
    below (leb-true j.id (2 ^ 32 - 1) ends.1)
  where
    below : j.id ≤ 2 ^ 32 - 1 → j.id < 2 ^ 32
    below to = omega (arith, to)

address_ok : (n : ℕ) → n < 2 ^ 64 → address_in (Int (pos (high n))) (Int (pos (low n))) ≡ Ok n
unfolding address_in
address_ok n below =
    let top : high n < 2 ^ 32 = omega (arith, below) in
    let rest_of : low n < 2 ^ 32 = omega arith in
    let whole : high n * 2 ^ 32 + low n ≡ n = omega arith in
    rw (small_ok (high n) top, small_ok (low n) rest_of) (ap Ok whole)

-- a span
pub span_ok : (job : ℕ) (s : Span) → IsSpan s → read_span (span_row job s) ≡ Ok s
unfolding read_span
span_ok job s h =
    rw (volume_ok s.volume h.volume, small_ok s.first h.first, small_ok s.last h.last, address_ok s.start h.start, address_ok s.end h.end, small_ok s.vol_index h.vol_index) refl

pub digest_ok : (d : Option (List ℕ)) → IsDigest d → digest_in (Text (digest_text d)) ≡ Ok d
unfolding digest_in digest digest_text
digest_ok None is = refl
digest_ok (Some bytes) is =
    let long : length (encode_lower bytes) ≡ 32 = length-encode_with lower_digits bytes ∙ ap (λ n. 2 * n) is.0 in
    let written : bytes_eq (encode_lower bytes) (encode_lower bytes) ≡ true = (bytes_eq-Decides (encode_lower bytes) (encode_lower bytes)).1 refl in
    let t = encode_lower bytes in
    let full : is_empty t ≡ false = ap (λ n. n == 0) long in
    ap (λ b. cond b (Ok None) (if_written t (decode_sized t 16))) full ∙ ap (if_written t) (decode_sized-encode_lower bytes 16 is.0 is.1)
    ∙ ap (λ b. cond b (Ok (Some bytes)) (Err 47)) written

-- the row of a file
pub file_ok : (job : ℕ) (f : FileRow) → f.index < 2 ^ 32 → is_path f.path ≡ true → is_utf8 f.lstat ≡ true → IsDigest f.digest → read_file (file_row job f) ≡ Ok f
unfolding read_file
file_ok job f index path lstat digest =
    rw (small_ok f.index index, path_ok f.path path, string_ok f.lstat lstat, digest_ok f.digest digest) refl

-- what is so of each part of a job's row is so of the row
pub job_row_is : (j : JobRow) → 1 ≤ j.id → j.id < 2 ^ 32 → is_letter j.kind ≡ true → is_letter j.level ≡ true → is_letter j.status ≡ true → j.start < 2 ^ 64
    → j.session.id < 2 ^ 32 → j.session.time < 2 ^ 32 → is_name j.client ≡ true → is_name j.fileset ≡ true → is_job_row j ≡ true
unfolding is_job_row
job_row_is j from to kind level status start session time client fileset =
    let least : nat_le 1 j.id ≡ true = le-leb 1 j.id from in
    let most : nat_le j.id (2 ^ 32 - 1) ≡ true = le-leb j.id (2 ^ 32 - 1) (at_most j.id to) in
    let early : nat_lt j.start (2 ^ 64) ≡ true = lt-ltb j.start (2 ^ 64) start in
    let one : nat_lt j.session.id (2 ^ 32) ≡ true = lt-ltb j.session.id (2 ^ 32) session in
    let two : nat_lt j.session.time (2 ^ 32) ≡ true = lt-ltb j.session.time (2 ^ 32) time in
    rw (least, most, kind, level, status, early, one, two, client, fileset) refl
  where
    at_most : (n : ℕ) → n < 2 ^ 32 → n ≤ 2 ^ 32 - 1
    at_most n below = omega (arith, below)
