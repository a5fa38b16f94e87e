-- The outline of a file: all but its bytes, from its record headers and its attributes.
use Rattle.std.specs.Prelude.{◌≡◌, ℕ, not, List, [], ◌∷◌, length, map, filter, Result, Ok, Err, if◌then◌else◌}
use Rattle.br_model.specs.Answer.{◌>>=◌, refused_as}
use Rattle.br_model.specs.Block.{Fragment}
use Rattle.br_model.specs.File.{Fault, Item, Outcome, attributes_of, content, extent_end, extent_of, fault, has_bytes, is_data, is_stream, unsupported}
use Rattle.br_model.specs.Meaning.{Spot}
use Rattle.br_model.specs.Name.{FileKey, key_rank}
use Rattle.br_model.specs.Order.{in_order}
use Rattle.br_model.specs.Record.{Record, join}
use Rattle.br_model.specs.Restored.{HitList, fragments_for}

-- a file without its bytes, of which there are `size`
pub record Outline : Type 0 where
  pub path : List ℕ
  pub kind : ℕ
  pub size : ℕ

-- the outline of a file, or why there is no file
abbrev pub Foreseen : Type 0
Foreseen = Result Outline Fault

-- the end of a file with one more record; 67 or 68 if its data do not fit
unfoldable pub end_after : ℕ → Record → Result ℕ ℕ
end_after end r = if not (is_data r) then Ok end else do
  e ← extent_of end r
  Ok (extent_end e)

-- the end of a file with more records
unfoldable pub end_from : ℕ → List Record → Result ℕ ℕ
end_from end [] = Ok end
end_from end (r ∷ rs) = do
  next ← end_after end r
  end_from next rs

-- the number of bytes of a file of this type
unfoldable pub size_of : ℕ → List Record → Result ℕ ℕ
size_of kind records = if not (has_bytes kind) then Ok 0 else end_from 0 records

-- The outcome of the records of the file with this index, without its bytes. Faults come in the
-- same order as for the file: attributes (63, 64), a stream (65), data (67, 68). The digest is
-- not compared.
unfoldable pub outline : ℕ → List Record → Foreseen
outline index records = do
  a ← refused_as fault (attributes_of index (filter (is_stream 1) records))
  _ ← unsupported records
  size ← refused_as fault (size_of a.kind records)
  Ok (record { path = a.path; kind = a.kind; size = size })

-- the same for fragments, which are joined to records (60, 61, 62)
unfoldable pub outline_of : FileKey → List Fragment → Foreseen
outline_of key fragments = do
  records ← refused_as fault (join fragments)
  outline key.index records

-- the outline of a file, or why there is none, with its key
pub record Outlined : Type 0 where
  pub key : FileKey
  pub outline : Foreseen

-- the outlines of the files of some hits, in order of key
unfoldable pub outlines_found : HitList → List Outlined
outlines_found listed =
    map (λ key. record { key = key; outline = outline_of key (fragments_for key listed) })
    (in_order key_rank (map (λ (e : (FileKey × Spot) × Fragment). e.0.0) listed))

-- ---- how an outline and its file agree

-- the outline is that of the file
abbrev pub IsOutlineOf : Item → Outline → Type 0
IsOutlineOf item o = (o.path ≡ item.path) × (o.kind ≡ item.kind) × (o.size ≡ length item.bytes)

-- A file has its outline. If there is no file, there is the same fault instead of an outline,
-- unless the digest differs (66).
abbrev pub Foresees : Foreseen → Outcome → Type 0
Foresees (Ok o) (Ok item) = IsOutlineOf item o
Foresees (Ok o) (Err f) = f ≡ fault 66
Foresees (Err e) (Ok item) = ⊥
Foresees (Err e) (Err f) = f ≡ e

-- records and their outline agree
abbrev pub OutlinesForesee : Type 0
OutlinesForesee = (index : ℕ) (records : List Record) → Foresees (outline index records) (content index records)
