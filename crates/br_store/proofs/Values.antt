-- What an equality of SQL says of values.
use Rattle.std.proofs.Common.{◌≡◌, ℕ, ℤ, List, Bool, true, false, ◌||◌, cond, Some, Less, Equal, Greater, refl, sym, ap, ◌∙◌}
use Rattle.std.specs.declared.cmp.Ordering.{Ordering}
use Rattle.std.specs.Ordering.{is_eq}
use Rattle.std.specs.FinMap.{slice_cmp-IsAntisymmetric, nat_cmp-IsAntisymmetric}
use Rattle.sqlite.specs.declared.types.Value.{Value}
use Rattle.sqlite.specs.declared.types.Value.TheVariants.{Null, Int, Real, Text, Blob}
use Rattle.sqlite.specs.Collation.TheVariants.{Binary}
use Rattle.sqlite.specs.Order.{Row, column, value_cmp}
use Rattle.sqlite.specs.Ops.{binary, is_true, is_null, from_truth}
use Rattle.sqlite_sql.specs.declared.ops.BinaryOp.TheVariants.{Compare}
use Rattle.sqlite_sql.specs.declared.ops.CompareOp.TheVariants.{Eq}
use Rattle.sqlite_value.proofs.OrderLemmas.{value_cmp-Text, value_cmp-Blob, value_cmp_total}
use Rattle.std.proofs.lemmas.Cmp.{tied_itself}
use Rattle.br_store.specs.Held.{is_named}
use Rattle.br_store.specs.Names.{word}
use Rattle.br_store.specs.declared.name_numbers.Dictionary.{Dictionary}
use Rattle.br_store.specs.declared.name_numbers.Dictionary.TheVariants.{Client, FileSet, Media, Path}
use Rattle.sqlite_value.proofs.KeyLemmas.{class_tied}

if_true : (nulls : Bool) (o : Ordering) → is_true (cond nulls Null (from_truth (Some (is_eq o)))) ≡ true → o ≡ Equal
if_true true o h = absurd cc
if_true false Less h = absurd cc
if_true false Equal h = refl
if_true false Greater h = absurd cc

-- what `=` finds equal is equal in the order of values
pub tied : (v w : Value) → is_true (binary (Compare Eq Binary) v w) ≡ true → value_cmp v w ≡ Equal
unfolding binary
tied v w h = if_true (is_null v || is_null w) (value_cmp v w) h

pub text_tied : (v : Value) (t : List ℕ) → value_cmp v (Text t) ≡ Equal → v ≡ Text t
text_tied Null t h = absurd (let e = class_tied Null (Text t) h in cc)
text_tied (Int n) t h = absurd (let e = class_tied (Int n) (Text t) h in cc)
text_tied (Real x) t h = absurd (let e = class_tied (Real x) (Text t) h in cc)
text_tied (Text s) t h = ap Text (slice_cmp-IsAntisymmetric nat_cmp-IsAntisymmetric s t (sym (value_cmp-Text s t) ∙ h))
text_tied (Blob b) t h = absurd (let e = class_tied (Blob b) (Text t) h in cc)

pub blob_tied : (v : Value) (t : List ℕ) → value_cmp v (Blob t) ≡ Equal → v ≡ Blob t
blob_tied Null t h = absurd (let e = class_tied Null (Blob t) h in cc)
blob_tied (Int n) t h = absurd (let e = class_tied (Int n) (Blob t) h in cc)
blob_tied (Real x) t h = absurd (let e = class_tied (Real x) (Blob t) h in cc)
blob_tied (Text s) t h = absurd (let e = class_tied (Text s) (Blob t) h in cc)
blob_tied (Blob b) t h = ap Blob (slice_cmp-IsAntisymmetric nat_cmp-IsAntisymmetric b t (sym (value_cmp-Blob b t) ∙ h))

-- what `=` finds equal to a name is the name
pub word_tied : (d : Dictionary) (v : Value) (name : List ℕ) → is_true (binary (Compare Eq Binary) v (word d name)) ≡ true → v ≡ word d name
word_tied Client v name h = text_tied v name (tied v (Text name) h)
word_tied FileSet v name h = text_tied v name (tied v (Text name) h)
word_tied Media v name h = text_tied v name (tied v (Text name) h)
word_tied Path v name h = blob_tied v name (tied v (Blob name) h)

pub names_self : (v : Value) → is_null v ≡ false → is_true (binary (Compare Eq Binary) v v) ≡ true
unfolding binary
names_self v full = rw (full, tied_itself value_cmp_total v) refl

pub names_itself : (row : Row) (id : ℤ) → column row 0 ≡ Int id → is_named (Int id) row ≡ true
names_itself row id is = ap (λ v. is_true (binary (Compare Eq Binary) v (Int id))) is ∙ names_self (Int id) refl
