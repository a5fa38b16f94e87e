-- What an outline says of its file, and the outlines of hits in order.
use Rattle.std.proofs.Common.{◌≡◌, ℕ, ◌+◌, ◌-◌, ◌<◌, ◌≤◌, Bool, true, false, ◌&&◌, not, cond, List, [], ◌∷◌, ◌++◌, length, replicate, Some, Result, Ok, Err, refl, sym, ap, arith}
use Rattle.std.specs.Prelude.{filter, count_by, slice_get}
use Rattle.std.specs.List.{AllByRecursion}
use Rattle.std.specs.declared.cmp.Ordering.TheVariants.{Less}
use Rattle.std.proofs.lemmas.List.{length-append, length-replicate}
use Rattle.br_model.specs.Answer.{◌>>=◌, refused_as, refuse_if}
use Rattle.br_model.specs.Attribute.{Attributes}
use Rattle.br_model.specs.Block.{Fragment}
use Rattle.br_model.specs.Meaning.{Hit}
use Rattle.br_model.specs.Name.{FileKey, key_cmp}
use Rattle.br_model.specs.Record.{Record}
use Rattle.br_model.specs.File.{Extent, Fault, Outcome, attributes_of, bytes_from, checks_digest, content, digest_fits, extent_end, extent_of, extents_from, fault, file_bytes, has_bytes, is_data, is_skipped, is_stream, unsupported}
use Rattle.br_records.specs.Outline.{Foreseen, Foresees, Outlined, OutlinesForesee, end_after, end_from, outline, outline_of, outlines_found, size_of}
use Rattle.br_records.specs.Records.{fragments}
use Rattle.br_records.specs.Runs.{listed}
use Rattle.br_records.proofs.ExtentLaws.{extent_rises}
use Rattle.br_records.proofs.FilesLaws.{found_turn, none_found}

-- ---- the end of the bytes

-- the end is that of the extents from an address on
abbrev SameEnd : ℕ → Result ℕ ℕ → Result (List Extent) ℕ → Type 0
SameEnd at (Ok n) (Ok es) = at + length (bytes_from at es) ≡ n
SameEnd at (Ok n) (Err m) = ⊥
SameEnd at (Err n) (Ok es) = ⊥
SameEnd at (Err n) (Err m) = n ≡ m

-- one extent more
one_more : (at : ℕ) (e : Extent) → at ≤ e.start → (x : Result ℕ ℕ) (y : Result (List Extent) ℕ) → SameEnd (extent_end e) x y → SameEnd at x (y >>= λ more. Ok (e ∷ more))
unfolding bytes_from
one_more at e rises (Ok n) (Ok es) h =
    omega (arith, h, rises, length-append (replicate (e.start - at) 0 ++ e.bytes) (bytes_from (extent_end e) es), length-append (replicate (e.start - at) 0) e.bytes, length-replicate {A = ℕ} (e.start - at) 0)
one_more at e rises (Ok n) (Err m) h = absurd h
one_more at e rises (Err n) (Ok es) h = absurd h
one_more at e rises (Err n) (Err m) h = h

-- a record that is data
data_more : (at : ℕ) (r : Record) (rs : List Record) → ((n : ℕ) → SameEnd n (end_from n rs) (extents_from n (filter is_data rs)))
    → (x : Result Extent ℕ) → extent_of at r ≡ x
    → SameEnd at ((x >>= λ e. Ok (extent_end e)) >>= λ n. end_from n rs) (x >>= λ e. (extents_from (extent_end e) (filter is_data rs) >>= λ more. Ok (e ∷ more)))
data_more at r rs next (Ok e) is = one_more at e (extent_rises at r e is) (end_from (extent_end e) rs) (extents_from (extent_end e) (filter is_data rs)) (next (extent_end e))
data_more at r rs next (Err n) is = refl

-- a record more, by whether it is data
record_more : (at : ℕ) (r : Record) (rs : List Record) → ((n : ℕ) → SameEnd n (end_from n rs) (extents_from n (filter is_data rs)))
    → (b : Bool)
    → SameEnd at (cond (not b) (Ok at) (extent_of at r >>= λ e. Ok (extent_end e)) >>= λ n. end_from n rs) (extents_from at (cond b (r ∷ filter is_data rs) (filter is_data rs)))
unfolding extents_from
record_more at r rs next true = data_more at r rs next (extent_of at r) refl
record_more at r rs next false = next at

same_end : (at : ℕ) (rs : List Record) → SameEnd at (end_from at rs) (extents_from at (filter is_data rs))
unfolding end_from end_after extents_from bytes_from
same_end at [] = omega arith
same_end at (r ∷ rs) = record_more at r rs (λ n. same_end n rs) (is_data r)

-- ---- the number of bytes

abbrev SameSize : Result ℕ ℕ → Result (List ℕ) ℕ → Type 0
SameSize (Ok n) (Ok bytes) = n ≡ length bytes
SameSize (Ok n) (Err m) = ⊥
SameSize (Err n) (Ok bytes) = ⊥
SameSize (Err n) (Err m) = n ≡ m

all_of : (x : Result ℕ ℕ) (y : Result (List Extent) ℕ) → SameEnd 0 x y → SameSize x (y >>= λ es. Ok (bytes_from 0 es))
all_of (Ok n) (Ok es) h = omega (arith, h)
all_of (Ok n) (Err m) h = absurd h
all_of (Err n) (Ok es) h = absurd h
all_of (Err n) (Err m) h = h

size_by : (rs : List Record) (b : Bool) → SameSize (cond (not b) (Ok 0) (end_from 0 rs)) (cond (not b) (Ok []) (extents_from 0 (filter is_data rs) >>= λ es. Ok (bytes_from 0 es)))
size_by rs true = all_of (end_from 0 rs) (extents_from 0 (filter is_data rs)) (same_end 0 rs)
size_by rs false = refl

same_size : (kind : ℕ) (rs : List Record) → SameSize (size_of kind rs) (file_bytes kind rs)
unfolding size_of file_bytes
same_size kind rs = size_by rs (has_bytes kind)

-- ---- the file

abbrev outlined_by : Attributes → Result ℕ ℕ → Foreseen
outlined_by a x = refused_as fault x >>= λ size. Ok (record { path = a.path; kind = a.kind; size = size })

abbrev made_by : Attributes → List Record → Result (List ℕ) ℕ → Outcome
made_by a records y = refused_as fault y >>= λ bytes. (refuse_if (checks_digest a.kind records && not (digest_fits (filter (is_stream 3) records) bytes)) (fault 66) >>= λ _. Ok (record {
  path = a.path;
  kind = a.kind;
  stat = a.stat;
  link = a.link;
  bytes = bytes;
  skipped = count_by (is_skipped a.kind (checks_digest a.kind records)) records;
}))

by_digest : (a : Attributes) (records : List Record) (n : ℕ) (bytes : List ℕ) (skipped : ℕ) → n ≡ length bytes → (differs : Bool)
    → Foresees (Ok (record { path = a.path; kind = a.kind; size = n })) (refuse_if differs (fault 66) >>= λ _. Ok (record { path = a.path; kind = a.kind; stat = a.stat; link = a.link; bytes = bytes; skipped = skipped }))
by_digest a records n bytes skipped same true = refl
by_digest a records n bytes skipped same false = (refl, refl, same)

by_size : (a : Attributes) (records : List Record) (x : Result ℕ ℕ) (y : Result (List ℕ) ℕ) → SameSize x y → Foresees (outlined_by a x) (made_by a records y)
by_size a records (Ok n) (Ok bytes) h =
    by_digest a records n bytes (count_by (is_skipped a.kind (checks_digest a.kind records)) records) h (checks_digest a.kind records && not (digest_fits (filter (is_stream 3) records) bytes))
by_size a records (Ok n) (Err m) h = absurd h
by_size a records (Err n) (Ok bytes) h = absurd h
by_size a records (Err n) (Err m) h = ap fault (sym h)

by_stream : (a : Attributes) (records : List Record) (u : Result (Unit {0}) Fault)
    → Foresees (u >>= λ _. outlined_by a (size_of a.kind records)) (u >>= λ _. made_by a records (file_bytes a.kind records))
by_stream a records (Ok u) = by_size a records (size_of a.kind records) (file_bytes a.kind records) (same_size a.kind records)
by_stream a records (Err f) = refl

by_attributes : (records : List Record) (x : Result Attributes Fault)
    → Foresees (x >>= λ a. (unsupported records >>= λ _. outlined_by a (size_of a.kind records))) (x >>= λ a. (unsupported records >>= λ _. made_by a records (file_bytes a.kind records)))
by_attributes records (Ok a) = by_stream a records (unsupported records)
by_attributes records (Err f) = refl

pub outlines_foresee_lem : OutlinesForesee
unfolding outline content
outlines_foresee_lem index records = by_attributes records (refused_as fault (attributes_of index (filter (is_stream 1) records)))

-- ---- the outlines of the files of hits in order

-- the outline that the fragments of a file make
abbrev pub outlined_as : FileKey → List Fragment → Outlined
outlined_as key fs = record { key = key; outline = outline_of key fs }

-- What is known of hits in order, by the run of the file of the first of them: the outline of this
-- file, then those of fewer hits.
pub outlines_turn : (all before run behind : List Hit) (first : Hit) (key : FileKey) → slice_get all 0 ≡ Some first → first.key ≡ key → before ++ (run ++ behind) ≡ all
    → AllByRecursion (λ (h : Hit). key_cmp h.key key ≡ Less) before → AllByRecursion (λ (h : Hit). h.key ≡ key) run → AllByRecursion (λ (h : Hit). key_cmp key h.key ≡ Less) behind
    → (outlines_found (listed all) ≡ outlined_as key (fragments run) ∷ outlines_found (listed behind)) × (length behind < length all)
unfolding outlines_found
outlines_turn = found_turn outlined_as

-- no hits, no outlines
pub no_outlines : outlines_found (listed []) ≡ []
unfolding outlines_found
no_outlines = none_found outlined_as
