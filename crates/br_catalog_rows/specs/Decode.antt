-- A job, a span and a file as rows of the catalogue, and read back from these rows.
use Rattle.std.specs.Prelude.{◌≡◌, ⊤, length, ℕ, ◌+◌, ◌*◌, ◌/◌, ◌%◌, ◌^◌, ◌<◌, true, pos, ◌==◌, nat_le, if◌then◌else◌, List, [], ◌∷◌, ◌++◌, Option, Some, None, bytes_eq, Result, Ok, Err}
use Rattle.std.specs.List.{list_any}
use Rattle.std.specs.Str.{is_utf8}
use Rattle.sqlite.specs.declared.types.Value.{Value}
use Rattle.sqlite.specs.declared.types.Value.TheVariants.{Int, Text, Blob}
use Rattle.sqlite.specs.Order.{Row, column}
use Rattle.hex.specs.Hex.{IsBytes, encode_lower, decode_sized}
use Rattle.hex.specs.declared.error.FromHexError.{FromHexError}
use Rattle.br_model.specs.Answer.{◌>>=◌, refuse_if}
use Rattle.br_model.specs.Text.{is_empty}
use Rattle.br_model.specs.Name.{is_letter, is_path, is_slash, is_volume_name, checked_name, checked_volume_name, checked_path}
use Rattle.br_model.specs.Job.{JobRow, FileRow, Span}

-- a number that is 0 or more, else 47
abbrev pub natural : Value → Result ℕ ℕ
natural (Int (pos n)) = Ok n
natural _ = Err 47

-- a number of 32 bits, else 47
unfoldable pub small : Value → Result ℕ ℕ
small v = do
  n ← natural v
  _ ← refuse_if (nat_le (2 ^ 32) n) 47
  Ok n

-- the bytes of a text, else 47
abbrev pub text : Value → Result (List ℕ) ℕ
text (Text t) = Ok t
text _ = Err 47

-- the bytes of a blob, else 47
abbrev pub blob : Value → Result (List ℕ) ℕ
blob (Blob b) = Ok b
blob _ = Err 47

-- the letter that is the one byte of this text, else 47
abbrev pub letter : List ℕ → Result ℕ ℕ
letter (c ∷ []) = if is_letter c then Ok c else Err 47
letter _ = Err 47

-- a letter, else 47
unfoldable pub letter_in : Value → Result ℕ ℕ
letter_in v = do
  t ← text v
  letter t

-- the refusal of a value as one of the catalogue
abbrev pub refused : {X : Type 0} → Result X ℕ → Result X ℕ
refused (Ok x) = Ok x
refused (Err e) = Err 47

-- the name of a client or a file set, else 47
unfoldable pub name_in : Value → Result (List ℕ) ℕ
name_in v = do
  t ← text v
  refused (checked_name t)

-- the name of a volume, else 47
unfoldable pub volume_in : Value → Result (List ℕ) ℕ
volume_in v = do
  t ← text v
  refused (checked_volume_name t)

-- ---- paths, in two parts

-- the front of a path, up to and including its last slash
unfoldable pub front : List ℕ → List ℕ
front [] = []
front (c ∷ cs) = if list_any is_slash (c ∷ cs) then c ∷ front cs else []

-- the rest of a path after its last slash: nothing, if the path is a directory
unfoldable pub rest : List ℕ → List ℕ
rest [] = []
rest (c ∷ cs) = if list_any is_slash (c ∷ cs) then rest cs else c ∷ cs

-- the path of a front and a rest, else 47
unfoldable pub path_in : Value → Value → Result (List ℕ) ℕ
path_in v w = do
  f ← blob v
  r ← blob w
  refused (checked_path (f ++ r))

-- ---- digests

-- a digest as a text: its lower case hexadecimal digits, or nothing if there is no digest
unfoldable pub digest_text : Option (List ℕ) → List ℕ
digest_text None = []
digest_text (Some bytes) = encode_lower bytes

-- a digest has 16 bytes, if there is one
abbrev pub IsDigest : Option (List ℕ) → Type 0
IsDigest None = ⊤
IsDigest (Some bytes) = (length bytes ≡ 16) × IsBytes bytes

-- the digest, if the text spells these bytes in lower case digits
abbrev pub if_written : List ℕ → Result (List ℕ) FromHexError → Result (Option (List ℕ)) ℕ
if_written t (Ok bytes) = if bytes_eq (encode_lower bytes) t then Ok (Some bytes) else Err 47
if_written t (Err e) = Err 47

-- the digest of an empty text or of 32 lower case digits, else 47
unfoldable pub digest : List ℕ → Result (Option (List ℕ)) ℕ
digest t = if is_empty t then Ok None else if_written t (decode_sized t 16)

unfoldable pub digest_in : Value → Result (Option (List ℕ)) ℕ
digest_in v = do
  t ← text v
  digest t

-- the bytes, if they are characters, else 47
unfoldable pub characters : List ℕ → Result (List ℕ) ℕ
characters t = if is_utf8 t then Ok t else Err 47

-- a text of characters, else 47
unfoldable pub string_in : Value → Result (List ℕ) ℕ
string_in v = do
  t ← text v
  characters t

-- ---- addresses

-- the high and the low 32 bits of an address
abbrev pub high : ℕ → ℕ
high address = address / 2 ^ 32

abbrev pub low : ℕ → ℕ
low address = address % 2 ^ 32

-- the address of the two halves
unfoldable pub address_in : Value → Value → Result ℕ ℕ
address_in v w = do
  file ← small v
  block ← small w
  Ok (file * 2 ^ 32 + block)

-- ---- rows

-- the row of a job, with the names of its client and its file set
abbrev pub job_row : JobRow → Row
job_row j =
    Int (pos j.id) ∷ Text (j.kind ∷ []) ∷ Text (j.level ∷ []) ∷ Text j.client ∷ Text (j.status ∷ []) ∷ Int (pos j.start) ∷ Text j.fileset
    ∷ Int (pos j.session.id) ∷ Int (pos j.session.time) ∷ []

-- the row of a span of a job, with the name of its volume
abbrev pub span_row : ℕ → Span → Row
span_row job s =
    Int (pos job) ∷ Text s.volume ∷ Int (pos s.first) ∷ Int (pos s.last) ∷ Int (pos (high s.start)) ∷ Int (pos (high s.end))
    ∷ Int (pos (low s.start)) ∷ Int (pos (low s.end)) ∷ Int (pos s.vol_index) ∷ []

-- the row of a file of a job, with the two parts of its path
abbrev pub file_row : ℕ → FileRow → Row
file_row job f =
    Int (pos job) ∷ Int (pos f.index) ∷ Blob (front f.path) ∷ Blob (rest f.path) ∷ Text f.lstat ∷ Text (digest_text f.digest) ∷ []

-- the job in a row, else 47
unfoldable pub read_job : Row → Result JobRow ℕ
read_job row = do
  id ← small (column row 0)
  _ ← refuse_if (id == 0) 47
  kind ← letter_in (column row 1)
  level ← letter_in (column row 2)
  client ← name_in (column row 3)
  status ← letter_in (column row 4)
  start ← natural (column row 5)
  fileset ← name_in (column row 6)
  session ← small (column row 7)
  time ← small (column row 8)
  Ok (record { id = id; kind = kind; level = level; status = status; start = start; session = record { id = session; time = time }; client = client; fileset = fileset })

-- the span in a row, else 47
unfoldable pub read_span : Row → Result Span ℕ
read_span row = do
  volume ← volume_in (column row 1)
  first ← small (column row 2)
  last ← small (column row 3)
  start ← address_in (column row 4) (column row 6)
  end ← address_in (column row 5) (column row 7)
  vol_index ← small (column row 8)
  Ok (record { volume = volume; first = first; last = last; start = start; end = end; vol_index = vol_index })

-- the file in a row, else 47
unfoldable pub read_file : Row → Result FileRow ℕ
read_file row = do
  index ← small (column row 1)
  path ← path_in (column row 2) (column row 3)
  lstat ← string_in (column row 4)
  digest ← digest_in (column row 5)
  Ok (record { path = path; index = index; lstat = lstat; digest = digest })

-- a span is read back from its row if its name and its numbers are of their types
abbrev pub SpansReadBack : Type 0
SpansReadBack =
    (job : ℕ) (s : Span) → is_volume_name s.volume ≡ true → s.first < 2 ^ 32 → s.last < 2 ^ 32 → s.start < 2 ^ 64 → s.end < 2 ^ 64 → s.vol_index < 2 ^ 32
    → read_span (span_row job s) ≡ Ok s

-- a file is read back from its row if its values are of their types
abbrev pub FilesReadBack : Type 0
FilesReadBack =
    (job : ℕ) (f : FileRow) → f.index < 2 ^ 32 → is_path f.path ≡ true → is_utf8 f.lstat ≡ true → IsDigest f.digest
    → read_file (file_row job f) ≡ Ok f
