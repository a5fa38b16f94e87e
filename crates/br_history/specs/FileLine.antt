-- What the fields of a saved file mean.
use Rattle.std.specs.Prelude.{ℕ, List, Result, Ok}
use Rattle.br_model.specs.Answer.{◌>>=◌, some_or}
use Rattle.br_model.specs.Attribute.{Stat, read_stat}
use Rattle.br_model.specs.Name.{checked_path}
use Rattle.br_model.specs.Job.{SavedFile}
use Rattle.br_model.specs.Session.{checked_file}
use Rattle.br_types.specs.Escape.{unescaped}
use Rattle.br_types.specs.DecimalSpelling.{bytes_spelled}
use Rattle.br_history.specs.JobFields.{field, number_said}

-- the type of a file, and the texts of its path, bytes, link and numbers
pub record PutTexts : Type 0 where
  pub kind : ℕ
  pub path : List ℕ
  pub bytes : List ℕ
  pub link : List ℕ
  pub stat : List ℕ

-- four fields and the rest of the line; the first field is a number
unfoldable pub texts_said : List ℕ → Result PutTexts ℕ
texts_said text = do
  kind ← field text
  path ← field kind.1
  bytes ← field path.1
  link ← field bytes.1
  n ← number_said 4294967295 kind.0
  Ok (record { kind = n; path = path.0; bytes = bytes.0; link = link.0; stat = link.1 })

-- an escaped path: 90 if it is not an escaped text, 3 if it is not a path
unfoldable pub path_said : List ℕ → Result (List ℕ) ℕ
path_said text = some_or (unescaped text) 90 >>= checked_path

-- the bytes and the link of a file
unfoldable pub parts_said : PutTexts → Result (List ℕ × List ℕ) ℕ
parts_said t = do
  bytes ← some_or (bytes_spelled t.bytes) 90
  link ← some_or (bytes_spelled t.link) 90
  Ok (bytes, link)

-- a path and the numbers of a file; a bad path, 3, is refused first
unfoldable pub put_said : List ℕ → List ℕ → Result (List ℕ × Stat) ℕ
put_said path stat = do
  p ← checked_path path
  s ← read_stat stat
  Ok (p, s)

-- the file with this path: 90 for its bytes and its link, 3 for the path, 20 and 21 for the numbers,
-- then 15 and 17 for the whole file
unfoldable pub file_after : PutTexts → List ℕ → Result SavedFile ℕ
file_after t path = do
  parts ← parts_said t
  p ← put_said path t.stat
  checked_file (record { path = p.0; kind = t.kind; stat = p.1; link = parts.1; bytes = parts.0 })

-- the file that the texts describe
unfoldable pub file_said : PutTexts → Result SavedFile ℕ
file_said t = some_or (unescaped t.path) 90 >>= file_after t

-- the file that the fields of a line describe
unfoldable pub saved_said : List ℕ → Result SavedFile ℕ
saved_said text = texts_said text >>= file_said
