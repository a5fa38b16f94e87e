-- What a CREATE TABLE does.
use Rattle.std.proofs.Common.{◌≡◌, ℕ, List, [], ◌∷◌, ◌++◌, pos, false, None, Ok, map, refl, sym, ap, subst, ◌∙◌}
use Rattle.std.specs.List.{AllByRecursion}
use Rattle.sqlite.specs.Order.{Row, column}
use Rattle.sqlite.specs.declared.types.Value.TheVariants.{Int}
use Rattle.sqlite.specs.Table.{Table}
use Rattle.sqlite.specs.Schema.{Schema}
use Rattle.sqlite.specs.Tree.{Trees, put_row}
use Rattle.sqlite.specs.View.{IsShaped}
use Rattle.sqlite_trees.specs.declared.store.Shape.TheVariants.{Table as Shaped}
use Rattle.sqlite.specs.Edit.{next_rowid}
use Rattle.sqlite.specs.Change.{created, next_tree, KeepsRows}
use Rattle.sqlite.specs.Command.TheVariants.{CreateTable}
use Rattle.sqlite.specs.Does.{Tally, lacks_sequence}
use Rattle.sqlite.specs.Effect.{Database, IsDatabase}
use Rattle.sqlite.specs.State.{State, Writes, Executes}
use Rattle.sqlite.proofs.Callers.{runs_as}
use Rattle.br_catalog_tables.specs.TreePlaces.{Layout, new_layout}
use Rattle.br_catalog_tables.specs.Tables.{new_schema, tables_at}
use Rattle.br_catalog_tables.specs.KnownSchemas.{HasAll, no_owns}
use Rattle.br_catalog_rows.specs.Rows.{no_rows}
use Rattle.br_store.specs.Held.{Added, rows_at}
use Rattle.br_store.specs.Made.{HasEmptied, IsMade}
use Rattle.br_store.proofs.Inserts.{went, same_value}
use Rattle.br_store.proofs.Layouts.{has_here, layout_is}
use Rattle.br_store.proofs.Lookups.{new_stands}
use Rattle.br_store.proofs.Writes.{shaped_all, four}
use Rattle.br_store.proofs.Makes.{Makes, Follows}

pub record Created (schema after : Schema) (old new : Database) : Type 0 where
  pub schema_is : new.schema ≡ after
  pub sound : IsDatabase new
  pub empty : new.trees (next_tree schema) ≡ []
  pub others : KeepsRows schema.tables old.trees new.trees

pub creates : (schema after : Schema) (text : List ℕ) (table : Table) (old new : State) (count : ℕ) → Makes schema text table after → created schema table ≡ after → lacks_sequence after ≡ false
    → old.now.schema ≡ schema → Executes text [] old new (Ok count) → Created schema after old.now new.now
creates schema after text table old new count makes is whole has h =
    let w = subst (λ t. Writes old new None CreateTable t [] count) makes.1 (runs_as text [] old new schema has CreateTable makes.0 makes.3 count h) in
    let all = went w.changed in
    let first = went all.1 in
    let made = first.1 in
    let both : Ok made.table ≡ Ok table = sym made.defined ∙ makes.2 in
    let same : made.table ≡ table = cc in
    let schema_is : first.0.schema ≡ after = made.is ∙ ap (λ s. created s made.table) has ∙ ap (created schema) same ∙ is in
    let plain : lacks_sequence first.0.schema ≡ false = ap lacks_sequence schema_is ∙ whole in
    let now : new.now ≡ first.0 = ap (λ (p : Tally × Database). p.1) (same_value all.2) ∙ same_value (rw plain at first.2) in
    record {
      schema_is = ap (λ (d : Database). d.schema) now ∙ schema_is;
      sound = w.sound;
      empty = ap (λ (d : Database). d.trees (next_tree schema)) now ∙ subst (λ s. first.0.trees (next_tree s) ≡ []) has made.empty;
      others = subst (λ (d : Database). KeepsRows schema.tables old.now.trees d.trees) (sym now) (subst (λ (s : Schema). KeepsRows s.tables old.now.trees first.0.trees) has made.others);
    }

kept_empty : (tables : List Table) (old new : Trees) → KeepsRows tables old new → AllByRecursion (λ (t : Table). old t.tree ≡ []) tables → AllByRecursion (λ (t : Table). new t.tree ≡ []) tables
kept_empty [] old new kept empty = tt
kept_empty (t ∷ tables) old new kept empty = (kept.0 ∙ empty.0, kept_empty tables old new kept.1 empty.1)

all_last : (P : Table → Type 0) (tables : List Table) (last : Table) → AllByRecursion P tables → P last → AllByRecursion P (tables ++ last ∷ [])
all_last P [] last all p = (p, tt)
all_last P (t ∷ tables) last all p = (all.0, all_last P tables last all.1 p)

-- one more table that has no row
pub emptied_more : (schema after : Schema) (text : List ℕ) (table : Table) (old new : State) (count : ℕ) → Makes schema text (record table { tree = 0 }) after → Follows schema table after
    → HasEmptied schema old.now → Executes text [] old new (Ok count) → HasEmptied after new.now
emptied_more schema after text table old new count makes follows was has =
    let it = creates schema after text (record table { tree = 0 }) old new count makes follows.is follows.whole was.is has in
    record {
      is = it.schema_is;
      empty = subst (AllByRecursion (λ (t : Table). new.now.trees t.tree ≡ [])) (sym follows.last)
          (all_last (λ (t : Table). new.now.trees t.tree ≡ []) schema.tables table (kept_empty schema.tables old.now.trees new.now.trees it.others was.empty) (ap new.now.trees (sym follows.tree) ∙ it.empty));
    }

shaped_empty : (tables : List Table) (trees : Trees) → AllByRecursion (λ (t : Table). trees t.tree ≡ []) tables → AllByRecursion (λ (t : Table). IsShaped Shaped (trees t.tree)) tables
shaped_empty [] trees empty = tt
shaped_empty (t ∷ tables) trees empty = (subst (IsShaped Shaped) (sym empty.0) (tt, tt), shaped_empty tables trees empty.1)

pub made_version : (old new : Database) → HasEmptied new_schema old → (more : Row) → Added new_schema new_layout 0 (Int (next_rowid (old.trees 0)) ∷ Int (pos 2) ∷ more) old new → IsMade new
made_version old new was more a =
    let row : Row = Int (next_rowid (old.trees 0)) ∷ Int (pos 2) ∷ more in
    let l = new_layout in
    let first : new.trees 0 ≡ row ∷ [] = a.rows ∙ ap (put_row row) was.empty.0 in
    let jobs : new.trees 9 ≡ [] = a.others.1.1.1.1.1.0 (λ e. cc) ∙ was.empty.1.1.1.1.1.0 in
    let spans : new.trees 11 ≡ [] = a.others.1.1.1.1.1.1.0 (λ e. cc) ∙ was.empty.1.1.1.1.1.1.0 in
    let files : new.trees 13 ≡ [] = a.others.1.1.1.1.1.1.1.0 (λ e. cc) ∙ was.empty.1.1.1.1.1.1.1.0 in
    let has = subst (λ (s : Schema). HasAll s l no_owns) (sym a.schema) new_stands in
    let now = sym (layout_is l no_owns new has a.sound) in
    let all = shaped_all 0 row old.trees new.trees refl a.rows (tables_at l) a.others (shaped_empty (tables_at l) old.trees was.empty) in
    let rows : rows_at l new.trees ≡ no_rows = four (rows_at l new.trees) no_rows (ap (map (λ (r : Row). column r 1 ∷ [])) first) (ap (map _) jobs) (ap (map _) spans) (ap (map _) files) in
    record {
      tables = record {
        own = no_owns;
        schema = has_here l no_owns new has a.sound;
        sound = a.sound;
        shaped = subst (λ (m : Layout). AllByRecursion (λ (t : Table). IsShaped Shaped (new.trees t.tree)) (tables_at m)) now all;
      };
      rows = ap (λ (m : Layout). rows_at m new.trees) (sym now) ∙ rows;
    }
