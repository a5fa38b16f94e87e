-- A cut of records is a cut of each file's records into that file's fragments.
use Rattle.std.proofs.Common.{◌≡◌, ℕ, Bool, true, false, cond, eqb, List, [], ◌∷◌, ◌++◌, length, Ok, refl, sym, ap, ◌∙◌, subst, filter, arith}
use Rattle.std.proofs.lemmas.Bool.{eqb-true}
use Rattle.std.proofs.lemmas.List.{length-append}
use Rattle.std.proofs.lemmas.List.Elements.{filter-append}
use Rattle.std.specs.Prelude.{nat_abs}
use Rattle.std.specs.List.{AllByRecursion}
use Rattle.br_model.specs.Block.{Fragment}
use Rattle.br_model.specs.Record.{Record, GoOn, AreParts, IsCut, IsFragmentFor, join}
use Rattle.br_model.proofs.RecordLaws.{join_is_exact_lem}
use Rattle.br_model.proofs.ListLaws.{all_append, all_weaker, keeps_all, keeps_none}

-- the fragment is one of the file with this index
abbrev pub has_index : ℕ → Fragment → Bool
has_index index f = eqb (nat_abs f.index) index

-- the record is one of the file with this index
abbrev pub is_of_index : ℕ → Record → Bool
is_of_index index r = eqb r.index index

-- the fragments that go on with a record have its index and no more bytes than they say
pub rest_is_for : (index stream : ℕ) (left : List ℕ) (fs : List Fragment) → GoOn index stream left fs → AllByRecursion (IsFragmentFor index) fs
rest_is_for index stream left [] g = tt
rest_is_for index stream left (f ∷ fs) g =
    (record { index_is = g.0; within = omega (arith, g.2, ap length g.5, length-append f.bytes g.4) }, rest_is_for index stream g.4 fs g.6)

-- the parts of a record have its index and no more bytes than they say
pub parts_are_for : (r : Record) (parts : List Fragment) → AreParts r parts → AllByRecursion (IsFragmentFor r.index) parts
parts_are_for r [] p = absurd p
parts_are_for r (f ∷ fs) p =
    (record { index_is = p.0; within = omega (arith, p.2, ap length p.4, length-append f.bytes p.3) }, rest_is_for r.index r.stream p.3 fs p.5)

-- fragments of one file pass the test of an index as that file's index does
pub tested_as : (own index : ℕ) (fs : List Fragment) (b : Bool) → eqb own index ≡ b → AllByRecursion (IsFragmentFor own) fs
    → AllByRecursion (λ (f : Fragment). has_index index f ≡ b) fs
tested_as own index fs b e h =
    all_weaker (IsFragmentFor own) (λ (f : Fragment). has_index index f ≡ b) (λ f is. ap (λ z. eqb (nat_abs z) index) is.index_is ∙ e) fs h

-- of a cut the records of one index are cut into the fragments of that index
pub cut_of_index : (index : ℕ) (records : List Record) (fs : List Fragment) → IsCut records fs
    → IsCut (filter (is_of_index index) records) (filter (has_index index) fs)
cut_of_index index [] fs cut = rw cut refl
cut_of_index index (r ∷ rs) fs cut =
    subst (λ (gs : List Fragment). IsCut (filter (is_of_index index) (r ∷ rs)) gs) (sym (ap (filter (has_index index)) cut.2 ∙ filter-append (has_index index) cut.0 cut.1))
    (go (eqb r.index index) refl (cut_of_index index rs cut.1 cut.4))
  where
    go : (b : Bool) → eqb r.index index ≡ b → IsCut (filter (is_of_index index) rs) (filter (has_index index) cut.1)
        → IsCut (cond b (r ∷ filter (is_of_index index) rs) (filter (is_of_index index) rs)) (filter (has_index index) cut.0 ++ filter (has_index index) cut.1)
    go true e rest = (
      cut.0,
      filter (has_index index) cut.1,
      ap (λ (gs : List Fragment). gs ++ filter (has_index index) cut.1) (keeps_all (has_index index) cut.0 (tested_as r.index index cut.0 true e (parts_are_for r cut.0 cut.3))),
      cut.3,
      rest,
    )
    go false e rest =
        subst (λ (gs : List Fragment). IsCut (filter (is_of_index index) rs) (gs ++ filter (has_index index) cut.1))
        (sym (keeps_none (has_index index) cut.0 (tested_as r.index index cut.0 false e (parts_are_for r cut.0 cut.3)))) rest

-- each record of a list is one with this index
pub records_of_index : (index : ℕ) (records : List Record) → AllByRecursion (λ (r : Record). r.index ≡ index) (filter (is_of_index index) records)
records_of_index index [] = tt
records_of_index index (r ∷ rs) = go (eqb r.index index) refl (records_of_index index rs)
  where
    go : (b : Bool) → eqb r.index index ≡ b → AllByRecursion (λ (s : Record). s.index ≡ index) (filter (is_of_index index) rs)
        → AllByRecursion (λ (s : Record). s.index ≡ index) (cond b (r ∷ filter (is_of_index index) rs) (filter (is_of_index index) rs))
    go true e rest = (eqb-true r.index index e, rest)
    go false e rest = rest

-- a cut of records of one index is of fragments of that index, with no more bytes than they say
pub cut_is_for : (index : ℕ) (records : List Record) (fs : List Fragment) → AllByRecursion (λ (r : Record). r.index ≡ index) records → IsCut records fs
    → AllByRecursion (IsFragmentFor index) fs
cut_is_for index [] fs h cut = rw cut tt
cut_is_for index (r ∷ rs) fs h cut =
    subst (λ (gs : List Fragment). AllByRecursion (IsFragmentFor index) gs) (sym cut.2)
    (all_append (IsFragmentFor index) cut.0 cut.1
    (subst (λ (i : ℕ). AllByRecursion (IsFragmentFor i) cut.0) h.0 (parts_are_for r cut.0 cut.3)) (cut_is_for index rs cut.1 h.1 cut.4))

-- the fragments of one index in a cut have that index, and no more bytes than they say
pub fragments_of_index : (index : ℕ) (records : List Record) (fs : List Fragment) → IsCut records fs
    → AllByRecursion (IsFragmentFor index) (filter (has_index index) fs)
fragments_of_index index records fs cut =
    cut_is_for index (filter (is_of_index index) records) (filter (has_index index) fs) (records_of_index index records) (cut_of_index index records fs cut)

-- the fragments of one index in a cut are joined to the records of that index
pub joined_of_index : (index : ℕ) (records : List Record) (fs : List Fragment) → IsCut records fs
    → join (filter (has_index index) fs) ≡ Ok (filter (is_of_index index) records)
joined_of_index index records fs cut =
    (join_is_exact_lem index (filter (has_index index) fs) (filter (is_of_index index) records) (fragments_of_index index records fs cut)).1
    (cut_of_index index records fs cut)
