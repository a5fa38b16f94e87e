-- A job that was added has a number and a session that no job before it had.
use Rattle.std.proofs.Common.{◌≡◌, inl, inr, ℕ, pos, List, [], ◌∷◌, Bool, true, false, ◌&&◌, ◌||◌, cond, map, Some, IsTrue, Less, Equal, Greater, refl, sym, ap, ap₂, subst, ◌∙◌}
use Rattle.std.specs.declared.cmp.Ordering.{Ordering}
use Rattle.std.specs.Ordering.{is_eq, is_ne, match_ordering}
use Rattle.std.proofs.lemmas.Bool.{and_from, or_parts}
use Rattle.std.proofs.lemmas.Cmp.{tied_itself}
use Rattle.sqlite.specs.declared.types.Value.{Value}
use Rattle.sqlite.specs.declared.types.Value.TheVariants.{Null, Int, Text}
use Rattle.sqlite.specs.Collation.TheVariants.{Binary}
use Rattle.sqlite.specs.Order.{Row, column, value_cmp}
use Rattle.sqlite.specs.Edit.{is_taken}
use Rattle.sqlite.specs.Ops.{binary, is_null, is_true, from_truth}
use Rattle.sqlite.specs.Tree.{rowid, put_row}
use Rattle.sqlite.specs.View.{is_int}
use Rattle.sqlite.specs.Effect.{Database}
use Rattle.sqlite_schema.specs.Rules.{clashes, agree, equal, differ}
use Rattle.sqlite_catalog.specs.Listing.{IsSound}
use Rattle.sqlite_catalog.proofs.AlterLemmas.{keys_are_unique}
use Rattle.sqlite_value.specs.Keys.{plain, first_key}
use Rattle.sqlite_value.proofs.OrderLemmas.{value_cmp_total}
use Rattle.sqlite_rules.specs.Lists.{Has}
use Rattle.sqlite_rules.proofs.ListLemmas.{all_has}
use Rattle.br_model.specs.Job.{JobRow}
use Rattle.br_catalog_tables.specs.Tables.{job}
use Rattle.br_catalog_tables.specs.KnownSchemas.{with_own}
use Rattle.br_store.proofs.Inserts.{has_table}
use Rattle.br_catalog_rows.specs.Inserted.{IsNewIn}
use Rattle.br_store.specs.Held.{HasTables, Added, job_shown, layout_in, rows_in}
use Rattle.br_store.proofs.Values.{names_self}
use Rattle.br_store.proofs.Joined.{any_true, put_keeps}

-- a row that is shown is that of a row
shown_of : (f : Row → Row) (rows : List Row) (y : Row) → Has (map f rows) y → (x : Row) × Has rows x × (y ≡ f x)
shown_of f [] y h = absurd h
shown_of f (x ∷ rows) y (inl same) = (x, inl refl, same)
shown_of f (x ∷ rows) y (inr more) = let it = shown_of f rows y more in (it.0, inr it.1, it.2)

-- a new row is there
put_is_there : (new : Row) (rows : List Row) → is_taken rows new ≡ false → Has (put_row new rows) new
put_is_there new [] free = inl refl
put_is_there new (r ∷ rows) free = let parts = or_parts _ _ free in go (value_cmp (rowid r) (rowid new)) parts.0 (put_is_there new rows parts.1)
  where
    go : (o : Ordering) → is_eq o ≡ false → Has (put_row new rows) new → Has (match_ordering o (r ∷ put_row new rows) (new ∷ rows) (new ∷ r ∷ rows)) new
    go Less other more = inr more
    go Equal other more = absurd cc
    go Greater other more = inl refl

-- a new number is not the number of a row that is there
other_number : (rows : List Row) (x new : Row) → Has rows x → is_taken rows new ≡ false → is_eq (value_cmp (rowid x) (rowid new)) ≡ false
other_number rows x new has free = go (is_eq (value_cmp (rowid x) (rowid new))) refl
  where
    go : (b : Bool) → is_eq (value_cmp (rowid x) (rowid new)) ≡ b → b ≡ false
    go false e = refl
    go true e = absurd (let taken = any_true (λ r. is_eq (value_cmp (rowid r) (rowid new))) rows x has e in let no = sym taken ∙ free in cc)

not_null : (v : Value) → IsTrue (is_int v) → is_null v ≡ false
not_null (Int n) h = refl
not_null v h = absurd cc

if_apart : (nulls : Bool) (o : Ordering) → nulls ≡ false → is_eq o ≡ false → is_true (cond nulls Null (from_truth (Some (is_ne o)))) ≡ true
if_apart true o full apart = absurd cc
if_apart false Less full apart = refl
if_apart false Equal full apart = absurd cc
if_apart false Greater full apart = refl

-- values that are not tied differ
do_differ : (v w : Value) → is_null v ≡ false → is_null w ≡ false → is_eq (value_cmp v w) ≡ false → differ v w ≡ true
unfolding binary
do_differ v w a b apart = if_apart (is_null v || is_null w) (value_cmp v w) (ap₂ ◌||◌ a b) apart

-- no other row has the session of a row that obeys the rule
sessions_differ : (rows : List Row) (x row : Row) → clashes plain (8 ∷ 9 ∷ []) rows row ≡ false → Has rows x → is_null (column row 8) ≡ false → is_null (column row 9) ≡ false
    → column x 8 ≡ column row 8 → column x 9 ≡ column row 9 → differ (rowid x) (rowid row) ≡ true → ⊥
unfolding first_key
sessions_differ rows x row none has a b first second other =
    let places : List ℕ = 8 ∷ 9 ∷ [] in
    let one : equal Binary (column x 8) (column row 8) ≡ true = ap (λ v. equal Binary v (column row 8)) first ∙ names_self (column row 8) a in
    let two : equal Binary (column x 9) (column row 9) ≡ true = ap (λ v. equal Binary v (column row 9)) second ∙ names_self (column row 9) b in
    let some : clashes plain places rows row ≡ true = any_true (λ y. agree plain places y places row && differ (rowid y) (rowid row)) rows x has
    (and_from (equal Binary (column x 8) (column row 8) && (equal Binary (column x 9) (column row 9) && true)) (differ (rowid x) (rowid row))
    (and_from (equal Binary (column x 8) (column row 8)) (equal Binary (column x 9) (column row 9) && true) one (and_from (equal Binary (column x 9) (column row 9)) true two refl)) other) in
    let e = sym some ∙ none in
    cc

-- a job whose row was added was new
pub new_job : (j : JobRow) (id client fileset start session time : ℕ) (kind level status : List ℕ) (old new : Database) → id ≡ j.id → session ≡ j.session.id → time ≡ j.session.time → HasTables old
    → (more : Row) → Added old.schema (layout_in old.trees) (layout_in old.trees).job (Int (pos id) ∷ Null ∷ Text kind ∷ Text level ∷ Int (pos client) ∷ Text status ∷ Int (pos start) ∷ Int (pos fileset) ∷ Int (pos session) ∷ Int (pos time) ∷ more) old new
    → IsNewIn j (rows_in old.trees)
new_job j id client fileset start session time kind level status old new e1 e2 e3 tables more a =
    let row : Row = Int (pos id) ∷ Null ∷ Text kind ∷ Text level ∷ Int (pos client) ∷ Text status ∷ Int (pos start) ∷ Int (pos fileset) ∷ Int (pos session) ∷ Int (pos time) ∷ more in
    let l = layout_in old.trees in
    let jobs = old.trees l.job in
    let f = job_shown (old.trees l.client) (old.trees l.fileset) in
    let numbered = tables.shaped.1.1.1.1.1.0.1 in
    let schema = old.schema in
    let t = with_own (job l.job) tables.own.job in
    let sound = subst (λ s. IsSound s new.trees) a.schema a.sound in
    let here = subst (λ rows. Has rows row) (sym a.rows) (put_is_there row jobs a.fresh) in
    let none = keys_are_unique schema new.trees t 0 (8 ∷ 9 ∷ []) row sound (has_table schema t tables.schema.job) refl here in
    record {
      number = λ r has is.
          let it = shown_of f jobs r has in
          let same : rowid it.0 ≡ Int (pos id) = sym (ap (λ y. column y 0) it.2) ∙ is ∙ ap (λ n. Int (pos n)) (sym e1) in
          let tie : is_eq (value_cmp (rowid it.0) (rowid row)) ≡ true = ap is_eq (ap (λ v. value_cmp v (Int (pos id))) same ∙ tied_itself value_cmp_total (Int (pos id))) in
          let e = sym tie ∙ other_number jobs it.0 row it.1 a.fresh in
          cc;
      session = λ r has is also.
          let it = shown_of f jobs r has in
          let there = subst (λ rows. Has rows it.0) (sym a.rows) (put_keeps row jobs it.0 a.fresh it.1) in
          let other = do_differ (rowid it.0) (rowid row) (not_null (rowid it.0) (all_has _ jobs it.0 numbered it.1)) refl (other_number jobs it.0 row it.1 a.fresh) in
          sessions_differ (new.trees l.job) it.0 row none there refl refl
          (sym (ap (λ y. column y 7) it.2) ∙ is ∙ ap (λ n. Int (pos n)) (sym e2)) (sym (ap (λ y. column y 8) it.2) ∙ also ∙ ap (λ n. Int (pos n)) (sym e3)) other;
    }
