-- The outcome of the records of one file: the file, or the first fault.
use Rattle.std.specs.Prelude.{◌≡◌, ℕ, ◌+◌, ◌-◌, ◌^◌, ◌<◌, ◌≤◌, ◌⊎◌, ◌↔◌, ⊤, Bool, true, false, not, ◌&&◌, ◌||◌, nat_lt, ◌==◌, if◌then◌else◌, List, [], ◌∷◌, ◌++◌, length, take, drop, replicate, filter, fold, max, count_by, slice_index, bytes_eq, Result, Ok, Err, All, Any}
use Rattle.std.specs.List.{list_any}
use Rattle.std.specs.Int.{w64, from_be_bytes, is_in_range}
use Rattle.md5.specs.Md5.{md5}
use Rattle.br_model.specs.Answer.{◌>>=◌, refuse_if, refused_as}
use Rattle.br_model.specs.Attribute.{Stat, Attributes, read_attributes}
use Rattle.br_model.specs.Record.{Record}

-- a restored file, and the number of its records that were skipped
pub record Item : Type 0 where
  pub path : List ℕ
  pub kind : ℕ
  pub stat : Stat
  pub link : List ℕ
  pub bytes : List ℕ
  pub skipped : ℕ

-- why there is no file: the number of the fault, and for 65 the stream, else 0
pub record Fault : Type 0 where
  pub number : ℕ
  pub stream : ℕ

-- the result of a restore for one file
abbrev pub Outcome : Type 0
Outcome = Result Item Fault

-- a fault with this number and no stream
abbrev pub fault : ℕ → Fault
fault number = record { number = number; stream = 0 }

-- the streams: 1 attributes, 2 data, 3 the MD5 digest, 6 sparse data; 10 and 1000 to 1999 are passed over
abbrev pub is_stream : ℕ → Record → Bool
is_stream stream r = r.stream == stream

-- data is plain in stream 2, or sparse in stream 6
abbrev pub is_data : Record → Bool
is_data r = is_stream 2 r || is_stream 6 r

-- a record of stream 10, or of 1000 to 1999, is passed over
abbrev pub is_passed_over : Record → Bool
is_passed_over r = is_stream 10 r || is_in_range 1000 1999 r.stream

-- attributes, data, digests and what is passed over are supported
abbrev pub is_supported : Record → Bool
is_supported r = is_stream 1 r || is_data r || is_stream 3 r || is_passed_over r

-- a file of type 2 or 3 has bytes
abbrev pub has_bytes : ℕ → Bool
has_bytes kind = kind == 2 || kind == 3

-- the one attribute record: 63 if there is none, 64 if there are two or it cannot be read
unfoldable pub attributes_of : ℕ → List Record → Result Attributes ℕ
attributes_of index [] = Err 63
attributes_of index (r ∷ []) = refused_as (λ _. 64) (read_attributes r.bytes index)
attributes_of index (r ∷ s ∷ more) = Err 64

-- 65 with the first stream that is not supported
unfoldable pub unsupported : List Record → Result (Unit {0}) Fault
unsupported [] = Ok tt
unsupported (r ∷ rs) = if is_supported r then unsupported rs else Err (record { number = 65; stream = r.stream })

-- ---- data

-- a run of bytes of a file, and the address of the first
pub record Extent : Type 0 where
  pub start : ℕ
  pub bytes : List ℕ

-- the address after the last byte of an extent
abbrev pub extent_end : Extent → ℕ
extent_end e = e.start + length e.bytes

-- The extent of a data record: plain data at the end so far, sparse data at the address in its
-- first 8 bytes. 67 if these are missing or the address is before that end, 68 if the file would
-- have more than 2 ^ 30 bytes.
unfoldable pub extent_of : ℕ → Record → Result Extent ℕ
extent_of end r = do
  e ← (if is_stream 2 r then Ok (record { start = end; bytes = r.bytes })
      else if nat_lt (length r.bytes) 8 || nat_lt address end then Err 67
      else Ok (record { start = address; bytes = drop 8 r.bytes }))
  if nat_lt (2 ^ 30) (extent_end e) then Err 68 else Ok e
  where
    address : ℕ
    address = from_be_bytes w64 (take 8 r.bytes)

-- the extents of data records, each after the one before, or the first fault
unfoldable pub extents_from : ℕ → List Record → Result (List Extent) ℕ
extents_from end [] = Ok []
extents_from end (r ∷ rs) = do
  e ← extent_of end r
  more ← extents_from (extent_end e) rs
  Ok (e ∷ more)

-- the bytes from an address on, with zeros between the extents
unfoldable pub bytes_from : ℕ → List Extent → List ℕ
bytes_from at [] = []
bytes_from at (e ∷ es) = replicate (e.start - at) 0 ++ e.bytes ++ bytes_from (extent_end e) es

-- the greatest end of the extents
abbrev pub greatest_end : List Extent → ℕ
greatest_end es = fold (λ n (e : Extent). max n (extent_end e)) 0 es

-- The extent of a data record after the earlier ones: plain data begins at the greatest end so far,
-- sparse data at the address in its first 8 bytes, which is no less. The file has at most 2 ^ 30
-- bytes.
pub record IsExtentOf (earlier : List Extent) (r : Record) (e : Extent) : Type 0 where
  pub plain : is_stream 2 r ≡ true → (e.start ≡ greatest_end earlier) × (e.bytes ≡ r.bytes)
  pub sparse : is_stream 2 r ≡ false → (8 ≤ length r.bytes) × (e.start ≡ from_be_bytes w64 (take 8 r.bytes)) × (greatest_end earlier ≤ e.start) × (e.bytes ≡ drop 8 r.bytes)
  pub fits : extent_end e ≤ 2 ^ 30

-- one extent for each data record, after those of the earlier ones
abbrev pub AreExtents : List Extent → List Record → List Extent → Type 0
AreExtents earlier [] [] = ⊤
AreExtents earlier [] (e ∷ es) = ⊥
AreExtents earlier (r ∷ rs) [] = ⊥
AreExtents earlier (r ∷ rs) (e ∷ es) = IsExtentOf earlier r e × AreExtents (earlier ++ e ∷ []) rs es

-- data records have exactly one list of extents, the one that reading returns
abbrev pub ExtentsAreExact : Type 0
ExtentsAreExact =
    (records : List Record) (extents : List Extent) → (extents_from 0 records ≡ Ok extents) ↔ AreExtents [] records extents

-- the extent has this byte at this place of the file
abbrev pub HasByte : ℕ → ℕ → Extent → Type 0
HasByte place byte e = (e.start ≤ place) × (place < extent_end e) × (slice_index e.bytes (place - e.start) ≡ byte)

-- the byte at each place is that of an extent that covers it, or 0 if none does
abbrev pub IsByteOf : List Extent → ℕ → ℕ → Type 0
IsByteOf es place byte =
    Any (HasByte place byte) es ⊎ ((byte ≡ 0) × All (λ e. (place < e.start) ⊎ (extent_end e ≤ place)) es)

-- the bytes of a file: they end at the greatest end of the extents, and each is that of its place
pub record AreBytesOf (es : List Extent) (bytes : List ℕ) : Type 0 where
  pub length_is : length bytes ≡ greatest_end es
  pub each : (place : ℕ) → place < length bytes → IsByteOf es place (slice_index bytes place)

-- the extents of data records have exactly one list of bytes, the one that reading returns
abbrev pub BytesAreExact : Type 0
BytesAreExact =
    (records : List Record) (extents : List Extent) (bytes : List ℕ) → extents_from 0 records ≡ Ok extents
    → (bytes_from 0 extents ≡ bytes) ↔ AreBytesOf extents bytes

-- ---- the whole file

-- a digest is compared only for a file with bytes and without sparse data
abbrev pub checks_digest : ℕ → List Record → Bool
checks_digest kind records = has_bytes kind && not (list_any (is_stream 6) records)

-- at most one digest, and it is the digest of the bytes
unfoldable pub digest_fits : List Record → List ℕ → Bool
digest_fits [] bytes = true
digest_fits (r ∷ []) bytes = bytes_eq r.bytes (md5 bytes)
digest_fits (r ∷ s ∷ more) bytes = false

-- records passed over, data of a file without bytes, and a digest that is not compared are skipped
abbrev pub is_skipped : ℕ → Bool → Record → Bool
is_skipped kind checked r = is_passed_over r || (is_data r && not (has_bytes kind)) || (is_stream 3 r && not checked)

-- the bytes of a file of this type
unfoldable pub file_bytes : ℕ → List Record → Result (List ℕ) ℕ
file_bytes kind records = if not (has_bytes kind) then Ok [] else do
  extents ← extents_from 0 (filter is_data records)
  Ok (bytes_from 0 extents)

-- The outcome of the records of the file with this index. Faults come in this order: attributes
-- (63, 64), a stream (65), data (67, 68), the digest (66).
unfoldable pub content : ℕ → List Record → Outcome
content index records = do
  a ← refused_as fault (attributes_of index (filter (is_stream 1) records))
  _ ← unsupported records
  bytes ← refused_as fault (file_bytes a.kind records)
  _ ← refuse_if (checks_digest a.kind records && not (digest_fits (filter (is_stream 3) records) bytes)) (fault 66)
  Ok (record {
    path = a.path;
    kind = a.kind;
    stat = a.stat;
    link = a.link;
    bytes = bytes;
    skipped = count_by (is_skipped a.kind (checks_digest a.kind records)) records;
  })
