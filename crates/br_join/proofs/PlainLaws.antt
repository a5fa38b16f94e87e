-- The plain data of a file, which its fragments have one after another.
use Rattle.std.proofs.Common.{◌≡◌, ℕ, ◌+◌, ◌-◌, ◌^◌, ◌<◌, ◌≤◌, Bool, true, false, ◌||◌, ◌&&◌, cond, not, ltb, ◌==◌, List, [], ◌∷◌, ◌++◌, length, replicate, Option, Some, None, Result, Ok, Err, refl, sym, ap, ◌∙◌, inl, inr, arith, append_assoc}
use Rattle.std.specs.Prelude.{count_by, filter, nat_abs}
use Rattle.std.specs.Int.{is_negative}
use Rattle.std.specs.List.{list_any}
use Rattle.std.proofs.lemmas.Bool.{ltb-false, ltb-true, or_parts}
use Rattle.std.proofs.lemmas.List.{append-nil, length-append}
use Rattle.br_model.specs.Answer.{◌>>=◌, IsRefusal, refuse_if, refused_as}
use Rattle.br_model.specs.Attribute.{Attributes, Stat}
use Rattle.br_model.specs.Block.{Fragment}
use Rattle.br_model.specs.Record.{Record, Begun, with_fragment, still_open, given_out, join_from, join}
use Rattle.br_model.specs.File.{Fault, Item, Outcome, fault, Extent, attributes_of, checks_digest, content, digest_fits, file_bytes, has_bytes, is_data, is_skipped, is_stream, unsupported}
use Rattle.br_model.specs.Name.{FileKey}
use Rattle.br_model.specs.Restored.{outcome_of}
use Rattle.br_model.proofs.AnswerLaws.{bind_ok, refuse_ok, refused_as_ok, chosen, ok_is, err_is_not_ok}
use Rattle.br_records.specs.Data.{laid}
use Rattle.br_join.specs.Data.{laid_from}
use Rattle.br_records.specs.Making.{cause}
use Rattle.br_join.specs.Plain.{plain_of, plain_data, plain_bytes, fitting_all, bytes_of}
use Rattle.br_join.specs.Source.{bytes_by, content_by}
use Rattle.br_join.specs.declared.file_source.BytesSource.{BytesSource}
use Rattle.br_join.specs.declared.file_source.BytesSource.TheVariants.{Read}
use Rattle.br_records.specs.declared.making_fault.MakingFault.{MakingFault}
use Rattle.br_records.specs.declared.making_fault.MakingFault.TheVariants.{Memory, File}
use Rattle.br_records.proofs.ExtentLaws.{plain_extent}
use Rattle.br_join.proofs.DataLaws.{laid_more, laid_refused, laid_done}

-- ---- fragments are joined to records

plain_more : (stream : ℕ) (bytes more : List ℕ) → plain_of stream (bytes ++ more) ≡ plain_of stream bytes ++ plain_of stream more
plain_more stream bytes more = go (stream == 2)
  where
    go : (b : Bool) → cond b (bytes ++ more) [] ≡ cond b bytes [] ++ cond b more []
    go true = refl
    go false = refl

abbrev open_data : Option Begun → List ℕ
open_data None = []
open_data (Some b) = plain_of b.stream b.bytes

-- a fragment adds its data to those of the record that is open
with_one : (o : Option Begun) (f : Fragment) (b : Begun) → with_fragment o f ≡ Ok b → plain_of b.stream b.bytes ≡ open_data o ++ plain_of (nat_abs f.stream) f.bytes
unfolding with_fragment
with_one None f b is =
    elim (chosen (is_negative f.stream) (Err 60) (Ok (record { index = nat_abs f.index; stream = nat_abs f.stream; bytes = f.bytes; left = f.size - length f.bytes })) (Ok b) is) [
      | inl p ↦ absurd (err_is_not_ok 60 b p.1)
      | inr p ↦ ap (λ (x : Begun). plain_of x.stream x.bytes) (sym (ok_is (record { index = nat_abs f.index; stream = nat_abs f.stream; bytes = f.bytes; left = f.size - length f.bytes }) b p.1))
    ]
with_one (Some d) f b is =
    let next : Begun = record { index = d.index; stream = d.stream; bytes = d.bytes ++ f.bytes; left = f.size - length f.bytes } in
    elim (chosen (not (is_negative f.stream && nat_abs f.stream == d.stream)) (Err 61) (cond (not (f.size == d.left)) (Err 62) (Ok next)) (Ok b) is) [
      | inl p ↦ absurd (err_is_not_ok 61 b p.1)
      | inr p ↦
          elim (chosen (not (f.size == d.left)) (Err 62) (Ok next) (Ok b) p.1) [
            | inl q ↦ absurd (err_is_not_ok 62 b q.1)
            | inr q ↦
                let same : nat_abs f.stream ≡ d.stream = search (arith, p.0) in
                ap (λ (x : Begun). plain_of x.stream x.bytes) (sym (ok_is next b q.1)) ∙ plain_more d.stream d.bytes f.bytes
                ∙ ap (λ (n : ℕ). plain_of d.stream d.bytes ++ plain_of n f.bytes) (sym same)
          ]
    ]

-- a record is given out or open
one_data : (b : Begun) → plain_data (given_out b) ++ open_data (still_open b) ≡ plain_of b.stream b.bytes
one_data b = go (b.left == 0)
  where
    go : (whole : Bool) → plain_data (cond whole (record { index = b.index; stream = b.stream; bytes = b.bytes } ∷ []) []) ++ open_data (cond whole None (Some b)) ≡ plain_of b.stream b.bytes
    go true = append-nil (plain_of b.stream b.bytes ++ []) ∙ append-nil (plain_of b.stream b.bytes)
    go false = refl

plain_after : (b : Begun) (records : List Record) → plain_data (given_out b ++ records) ≡ plain_data (given_out b) ++ plain_data records
plain_after b records = go (b.left == 0)
  where
    r : Record
    r = record { index = b.index; stream = b.stream; bytes = b.bytes }

    go : (whole : Bool) → plain_data (cond whole (r ∷ []) [] ++ records) ≡ plain_data (cond whole (r ∷ []) []) ++ plain_data records
    go true = ap (λ (bytes : List ℕ). bytes ++ plain_data records) (sym (append-nil (plain_of r.stream r.bytes)))
    go false = refl

joined_data : (o : Option Begun) (fs : List Fragment) (rs : List Record) → join_from o fs ≡ Ok rs → plain_data rs ≡ open_data o ++ plain_bytes fs
unfolding join_from
joined_data None [] rs is = ap plain_data (sym (ok_is [] rs is))
joined_data (Some b) [] rs is = absurd (err_is_not_ok 61 rs is)
joined_data o (f ∷ fs) rs is =
    let first = bind_ok (with_fragment o f) (λ b. join_from (still_open b) fs >>= λ records. Ok (given_out b ++ records)) rs is in
    let b : Begun = first.0 in
    let next = bind_ok (join_from (still_open b) fs) (λ records. Ok (given_out b ++ records)) rs first.2 in
    let records : List Record = next.0 in
    ap plain_data (sym (ok_is (given_out b ++ records) rs next.2)) ∙ plain_after b records
    ∙ ap (λ (bytes : List ℕ). plain_data (given_out b) ++ bytes) (joined_data (still_open b) fs records next.1)
    ∙ sym (append_assoc (plain_data (given_out b)) (open_data (still_open b)) (plain_bytes fs))
    ∙ ap (λ (bytes : List ℕ). bytes ++ plain_bytes fs) (one_data b ∙ with_one o f b first.1)
    ∙ append_assoc (open_data o) (plain_of (nat_abs f.stream) f.bytes) (plain_bytes fs)

-- the plain data of joined records are those of the fragments
pub plain_joined : (fs : List Fragment) (rs : List Record) → join fs ≡ Ok rs → plain_data rs ≡ plain_bytes fs
unfolding join
plain_joined fs rs is = joined_data None fs rs is

-- ---- plain data are laid one after another

laid_plain : (bytes : List ℕ) (r : Record) → is_stream 2 r ≡ true → ltb (2 ^ 30) (length bytes + length r.bytes) ≡ false → laid bytes r ≡ Ok (bytes ++ r.bytes)
laid_plain bytes r is few =
    let none : length bytes - length bytes ≡ 0 = omega arith in
    ap (λ x. x >>= λ (e : Extent). Ok (bytes ++ replicate (e.start - length bytes) 0 ++ e.bytes))
    (plain_extent (length bytes) r is ∙ ap (λ (b : Bool). cond b (Err 68) (Ok (record { start = length bytes; bytes = r.bytes }))) few)
    ∙ ap (λ (n : ℕ). Ok (bytes ++ replicate n 0 ++ r.bytes)) none ∙ ap (λ (front : List ℕ). Ok (front ++ r.bytes)) (append-nil bytes)

laid_over : (bytes : List ℕ) (r : Record) → is_stream 2 r ≡ true → ltb (2 ^ 30) (length bytes + length r.bytes) ≡ true → laid bytes r ≡ Err 68
laid_over bytes r is over =
    ap (λ x. x >>= λ (e : Extent). Ok (bytes ++ replicate (e.start - length bytes) 0 ++ e.bytes))
    (plain_extent (length bytes) r is ∙ ap (λ (b : Bool). cond b (Err 68) (Ok (record { start = length bytes; bytes = r.bytes }))) over)

fits : (bytes : List ℕ) → length bytes ≤ 2 ^ 30 → fitting_all bytes ≡ Ok bytes
fits bytes few = let no : ltb (2 ^ 30) (length bytes) ≡ false = search (arith, few) in ap (λ (b : Bool). cond b (Err 68) (Ok bytes)) no

fits_not : (bytes : List ℕ) → 2 ^ 30 < length bytes → fitting_all bytes ≡ Err 68
fits_not bytes over = let yes : ltb (2 ^ 30) (length bytes) ≡ true = search (arith, over) in ap (λ (b : Bool). cond b (Err 68) (Ok bytes)) yes

-- data of records of which none are sparse come one after another
plain_laid : (bytes : List ℕ) (rs : List Record) → length bytes ≤ 2 ^ 30 → list_any (is_stream 6) rs ≡ false
    → refused_as fault (laid_from bytes (filter is_data rs)) ≡ refused_as fault (fitting_all (bytes ++ plain_data rs))
plain_laid bytes [] few none =
    ap (refused_as fault) (laid_done bytes ∙ sym (fits bytes few) ∙ ap fitting_all (sym (append-nil bytes)))
plain_laid bytes (r ∷ rs) few none = go (λ first short. plain_laid first rs short parts.1) (is_stream 2 r) refl (ltb (2 ^ 30) (length bytes + length r.bytes)) refl
  where
    parts : (is_stream 6 r ≡ false) × (list_any (is_stream 6) rs ≡ false)
    parts = or_parts (is_stream 6 r) (list_any (is_stream 6) rs) none

    rest : List Record
    rest = filter is_data rs

    go : ((first : List ℕ) → length first ≤ 2 ^ 30 → refused_as fault (laid_from first (filter is_data rs)) ≡ refused_as fault (fitting_all (first ++ plain_data rs)))
        → (b : Bool) → is_stream 2 r ≡ b → (over : Bool) → ltb (2 ^ 30) (length bytes + length r.bytes) ≡ over
        → refused_as fault (laid_from bytes (filter is_data (r ∷ rs))) ≡ refused_as fault (fitting_all (bytes ++ (plain_of r.stream r.bytes ++ plain_data rs)))
    go more true is true over =
        ap (λ (b : Bool). refused_as fault (laid_from bytes (cond (b || is_stream 6 r) (r ∷ rest) rest))) is
        ∙ laid_refused bytes r rest (fault 68) (ap (refused_as fault) (laid_over bytes r is over))
        ∙ ap (refused_as fault) (sym (fits_not (bytes ++ (r.bytes ++ plain_data rs)) (omega (arith, ltb-true (2 ^ 30) (length bytes + length r.bytes) over, length-append bytes (r.bytes ++ plain_data rs), length-append r.bytes (plain_data rs)))))
        ∙ ap (λ (b : Bool). refused_as fault (fitting_all (bytes ++ (cond b r.bytes [] ++ plain_data rs)))) (sym is)
    go more true is false fitting =
        ap (λ (b : Bool). refused_as fault (laid_from bytes (cond (b || is_stream 6 r) (r ∷ rest) rest))) is
        ∙ ap (refused_as fault) (laid_more bytes (bytes ++ r.bytes) r rest (ap (refused_as fault) (laid_plain bytes r is fitting)))
        ∙ more (bytes ++ r.bytes) (omega (arith, ltb-false (2 ^ 30) (length bytes + length r.bytes) fitting, length-append bytes r.bytes))
        ∙ ap (λ (all : List ℕ). refused_as fault (fitting_all all)) (append_assoc bytes r.bytes (plain_data rs))
        ∙ ap (λ (b : Bool). refused_as fault (fitting_all (bytes ++ (cond b r.bytes [] ++ plain_data rs)))) (sym is)
    go more false is over how =
        ap (λ (b : Bool). refused_as fault (laid_from bytes (cond (b || is_stream 6 r) (r ∷ rest) rest))) is
        ∙ ap (λ (b : Bool). refused_as fault (laid_from bytes (cond b (r ∷ rest) rest))) parts.0
        ∙ more bytes few
        ∙ ap (λ (b : Bool). refused_as fault (fitting_all (bytes ++ (cond b r.bytes [] ++ plain_data rs)))) (sym is)

-- ---- the file that they make

read_as_laid : (kind : ℕ) (rs : List Record) (plain : List ℕ) → list_any (is_stream 6) rs ≡ false → plain ≡ plain_data rs
    → refused_as fault (bytes_of kind plain) ≡ refused_as fault (file_bytes kind rs)
unfolding file_bytes
read_as_laid kind rs plain none is = go (has_bytes kind)
  where
    go : (b : Bool) → refused_as fault (cond (not b) (Ok []) (fitting_all plain)) ≡ refused_as fault (cond (not b) (Ok []) (laid_from [] (filter is_data rs)))
    go true = ap (λ (bytes : List ℕ). refused_as fault (fitting_all bytes)) is ∙ sym (plain_laid [] rs (omega arith) none)
    go false = refl

-- what the records make, with these bytes for each type
content_with : ℕ → List Record → (ℕ → Result (List ℕ) Fault) → Outcome
content_with index records bytes_for = do
  a ← refused_as fault (attributes_of index (filter (is_stream 1) records))
  _ ← unsupported records
  bytes ← bytes_for a.kind
  _ ← refuse_if (checks_digest a.kind records && not (digest_fits (filter (is_stream 3) records) bytes)) (fault 66)
  Ok (record {
    path = a.path;
    kind = a.kind;
    stat = a.stat;
    link = a.link;
    bytes = bytes;
    skipped = count_by (is_skipped a.kind (checks_digest a.kind records)) records;
  })

-- the file with these attributes and bytes
abbrev item_of : Attributes → List Record → List ℕ → Item
item_of a rs bytes = record {
  path = a.path;
  kind = a.kind;
  stat = a.stat;
  link = a.link;
  bytes = bytes;
  skipped = count_by (is_skipped a.kind (checks_digest a.kind rs)) rs;
}

-- the digest is checked, and is that of other bytes
abbrev differs : Attributes → List Record → List ℕ → Bool
differs a rs bytes = checks_digest a.kind rs && not (digest_fits (filter (is_stream 3) rs) bytes)

abbrev tested : Attributes → List Record → List ℕ → Outcome
tested a rs bytes = refuse_if (differs a rs bytes) (fault 66) >>= λ _. Ok (item_of a rs bytes)

-- no step is refused
pub content_made : (index : ℕ) (rs : List Record) (source : BytesSource) (a : Attributes) (bytes : List ℕ) → refused_as fault (attributes_of index (filter (is_stream 1) rs)) ≡ Ok a
    → unsupported rs ≡ Ok tt → bytes_by source a.kind rs ≡ Ok bytes → differs a rs bytes ≡ false → content_by index rs source ≡ Ok (item_of a rs bytes)
unfolding content_by
content_made index rs source a bytes attr supported read fine =
    ap (λ (x : Result Attributes Fault). x >>= λ b. (unsupported rs >>= λ _. (bytes_by source b.kind rs >>= λ bs. tested b rs bs))) attr
    ∙ ap (λ (x : Result (Unit {0}) Fault). x >>= λ _. (bytes_by source a.kind rs >>= λ bs. tested a rs bs)) supported
    ∙ ap (λ (x : Result (List ℕ) Fault). x >>= λ bs. tested a rs bs) read
    ∙ ap (λ (t : Bool). refuse_if t (fault 66) >>= λ _. Ok (item_of a rs bytes)) fine

pub fits_is_fine : (checked fitting : Bool) → fitting ≡ true → (checked && not fitting) ≡ false
fits_is_fine true fitting is = ap not is
fits_is_fine false fitting is = refl

-- the file of the same parts
pub same_item : (a : Attributes) (rs : List Record) (path : List ℕ) (kind : ℕ) (stat : Stat) (link bytes : List ℕ) (skipped : ℕ) → path ≡ a.path → kind ≡ a.kind → stat ≡ a.stat
    → link ≡ a.link → skipped ≡ count_by (is_skipped a.kind (checks_digest a.kind rs)) rs
    → ◌≡◌ {A = Outcome} (Ok (item_of a rs bytes)) (Ok (record { path = path; kind = kind; stat = stat; link = link; bytes = bytes; skipped = skipped }))
same_item a rs path kind stat link bytes skipped p k s l n =
    (λ i. Ok (record { path = sym p i; kind = sym k i; stat = sym s i; link = sym l i; bytes = bytes; skipped = sym n i }))

by_source : (index : ℕ) (rs : List Record) (source : BytesSource) → content_by index rs source ≡ content_with index rs (λ kind. bytes_by source kind rs)
unfolding content_by content_with
by_source index rs source = refl

by_records : (index : ℕ) (rs : List Record) → content_with index rs (λ kind. refused_as fault (file_bytes kind rs)) ≡ content index rs
unfolding content content_with
by_records index rs = refl

-- what the records make with their plain data is what they make
pub made_of_read : (index : ℕ) (rs : List Record) (plain : List ℕ) → list_any (is_stream 6) rs ≡ false → plain ≡ plain_data rs
    → content_by index rs (Read plain) ≡ content index rs
unfolding bytes_by
made_of_read index rs plain none are = by_source index rs (Read plain) ∙ (λ i. content_with index rs (λ kind. read_as_laid kind rs plain none are i)) ∙ by_records index rs

-- the plain data of the fragments are those of their records
pub plain_read : (fs : List Fragment) (rs : List Record) (plain : List ℕ) → refused_as fault (join fs) ≡ Ok rs → plain ≡ plain_bytes fs → plain ≡ plain_data rs
plain_read fs rs plain joined is = is ∙ sym (plain_joined fs rs (refused_as_ok fault (join fs) rs joined))

-- what the records of fragments make is what these make
pub made_by_records : (key : FileKey) (fs : List Fragment) (rs : List Record) → refused_as fault (join fs) ≡ Ok rs → content key.index rs ≡ outcome_of key fs
unfolding outcome_of
made_by_records key fs rs joined = ap (λ x. x >>= content key.index) (sym joined)

-- a refusal of the records is one of the file
pub refused_by_records : (key : FileKey) (fs : List Fragment) (e : MakingFault) → IsRefusal (cause e) (refused_as fault (join fs)) → IsRefusal (cause e) (outcome_of key fs)
unfolding outcome_of
refused_by_records key fs Memory is = tt
refused_by_records key fs (File f) is = ap (λ x. x >>= content key.index) is

-- ---- a file whose fragments have no sparse data

-- some of the fragments have sparse data
abbrev pub have_sparse : List Fragment → Bool
have_sparse fs = list_any (λ (f : Fragment). nat_abs f.stream == 6) fs

-- the record that is open has the stream of its last fragment
with_stream : (o : Option Begun) (f : Fragment) (b : Begun) → with_fragment o f ≡ Ok b → b.stream ≡ nat_abs f.stream
unfolding with_fragment
with_stream None f b is =
    let first : Begun = record { index = nat_abs f.index; stream = nat_abs f.stream; bytes = f.bytes; left = f.size - length f.bytes } in
    elim (chosen (is_negative f.stream) (Err 60) (Ok first) (Ok b) is) [
      | inl p ↦ absurd (err_is_not_ok 60 b p.1)
      | inr p ↦ ap (λ (x : Begun). x.stream) (sym (ok_is first b p.1))
    ]
with_stream (Some d) f b is =
    let next : Begun = record { index = d.index; stream = d.stream; bytes = d.bytes ++ f.bytes; left = f.size - length f.bytes } in
    elim (chosen (not (is_negative f.stream && nat_abs f.stream == d.stream)) (Err 61) (cond (not (f.size == d.left)) (Err 62) (Ok next)) (Ok b) is) [
      | inl p ↦ absurd (err_is_not_ok 61 b p.1)
      | inr p ↦
          elim (chosen (not (f.size == d.left)) (Err 62) (Ok next) (Ok b) p.1) [
            | inl q ↦ absurd (err_is_not_ok 62 b q.1)
            | inr q ↦
                let same : nat_abs f.stream ≡ d.stream = search (arith, p.0) in
                ap (λ (x : Begun). x.stream) (sym (ok_is next b q.1)) ∙ sym same
          ]
    ]

-- a record that is given out before others
sparse_after : (b : Begun) (records : List Record) → (b.stream == 6) ≡ false → list_any (is_stream 6) records ≡ false → list_any (is_stream 6) (given_out b ++ records) ≡ false
sparse_after b records none rest = go (b.left == 0)
  where
    r : Record
    r = record { index = b.index; stream = b.stream; bytes = b.bytes }

    go : (whole : Bool) → list_any (is_stream 6) (cond whole (r ∷ []) [] ++ records) ≡ false
    go true = ap (λ (x : Bool). x || list_any (is_stream 6) records) none ∙ rest
    go false = rest

joined_sparse : (o : Option Begun) (fs : List Fragment) (rs : List Record) → join_from o fs ≡ Ok rs → have_sparse fs ≡ false → list_any (is_stream 6) rs ≡ false
unfolding join_from
joined_sparse None [] rs is none = ap (list_any (is_stream 6)) (sym (ok_is [] rs is))
joined_sparse (Some b) [] rs is none = absurd (err_is_not_ok 61 rs is)
joined_sparse o (f ∷ fs) rs is none =
    let first = bind_ok (with_fragment o f) (λ b. join_from (still_open b) fs >>= λ records. Ok (given_out b ++ records)) rs is in
    let b : Begun = first.0 in
    let next = bind_ok (join_from (still_open b) fs) (λ records. Ok (given_out b ++ records)) rs first.2 in
    let records : List Record = next.0 in
    let parts = or_parts (nat_abs f.stream == 6) (have_sparse fs) none in
    ap (list_any (is_stream 6)) (sym (ok_is (given_out b ++ records) rs next.2))
    ∙ sparse_after b records (ap (λ (n : ℕ). n == 6) (with_stream o f b first.1) ∙ parts.0) (joined_sparse (still_open b) fs records next.1 parts.1)

-- the bytes of a file of such a type are the plain data, if these are what it is read from
bytes_read : (kind : ℕ) (rs : List Record) (plain bytes : List ℕ) → has_bytes kind ≡ true → bytes_by (Read plain) kind rs ≡ Ok bytes → bytes ≡ plain
unfolding bytes_by
bytes_read kind rs plain bytes has is = go (ltb (2 ^ 30) (length plain)) (ap (λ (b : Bool). refused_as fault (cond (not b) (Ok []) (fitting_all plain))) (sym has) ∙ is)
  where
    go : (over : Bool) → ◌≡◌ {A = Result (List ℕ) Fault} (refused_as fault (cond over (Err 68) (Ok plain))) (Ok bytes) → bytes ≡ plain
    go true e = absurd cc
    go false e = cc

-- what fragments without sparse data make, if it is a file of such a type, has their plain data
pub plain_file : (key : FileKey) (fs : List Fragment) (item : Item) → have_sparse fs ≡ false → outcome_of key fs ≡ Ok item → has_bytes item.kind ≡ true → item.bytes ≡ plain_bytes fs
unfolding outcome_of content_by join
plain_file key fs item none is has =
    let plain : List ℕ = plain_bytes fs in
    let joined = bind_ok (refused_as fault (join fs)) (content key.index) item is in
    let rs : List Record = joined.0 in
    let no_sparse = joined_sparse None fs rs (refused_as_ok fault (join fs) rs joined.1) none in
    let made : content_by key.index rs (Read plain) ≡ Ok item = made_of_read key.index rs plain no_sparse (plain_read fs rs plain joined.1 refl) ∙ joined.2 in
    let read = bind_ok (refused_as fault (attributes_of key.index (filter (is_stream 1) rs)))
    (λ a. (unsupported rs >>= λ _. (bytes_by (Read plain) a.kind rs >>= λ bs. tested a rs bs))) item made in
    let a : Attributes = read.0 in
    let supported = bind_ok (unsupported rs) (λ _. (bytes_by (Read plain) a.kind rs >>= λ bs. tested a rs bs)) item read.2 in
    let given = bind_ok (bytes_by (Read plain) a.kind rs) (λ bs. tested a rs bs) item supported.2 in
    let bytes : List ℕ = given.0 in
    let fine = refuse_ok (differs a rs bytes) (fault 66) (λ _. Ok (item_of a rs bytes)) item given.2 in
    let same = ok_is (item_of a rs bytes) item fine.1 in
    ap (λ (i : Item). i.bytes) (sym same) ∙ bytes_read a.kind rs plain bytes (ap (λ (i : Item). has_bytes i.kind) same ∙ has) given.1
