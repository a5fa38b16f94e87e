-- What an INSERT of one row does.
use Rattle.std.proofs.Common.{◌≡◌, ◌⊎◌, inl, inr, ℕ, ℤ, ◌+◌, pos, List, [], ◌∷◌, ◌/◌, length, ◌++◌, slice_get, Bool, true, false, not, ◌&&◌, cond, codes, Some, None, Ok, Err, Result, refl, sym, ap, subst, subst₂, ◌∙◌, MatchBool}
use Rattle.std.specs.List.{AllByRecursion}
use Rattle.sqlite.specs.declared.types.Value.{Value}
use Rattle.sqlite.specs.declared.types.Value.TheVariants.{Null, Int, Text, Blob}
use Rattle.sqlite.specs.Order.{Row}
use Rattle.sqlite.specs.Term.{Term}
use Rattle.sqlite.specs.Ops.{unary}
use Rattle.sqlite.specs.Table.{Table}
use Rattle.sqlite.specs.Schema.{Schema}
use Rattle.sqlite_schema.specs.declared.schema.Keys.TheVariants.{Enforced}
use Rattle.sqlite.specs.Kind.TheVariants.{Integer}
use Rattle.sqlite.specs.Source.TheVariants.{Values}
use Rattle.sqlite.specs.Command.TheVariants.{Insert}
use Rattle.sqlite.specs.Edit.{edit_of, next_rowid, numbered, are_fresh, put_all, Applies}
use Rattle.sqlite.specs.Cast.{cast, cast_all, cast_row}
use Rattle.sqlite.specs.Rowids.TheVariants.{Chosen, Above}
use Rattle.sqlite_rules.proofs.ActionLemmas.{no_works}
use Rattle.sqlite_rules.specs.Lists.{Has}
use Rattle.sqlite_rules.proofs.ListLemmas.{all_has, has_got}
use Rattle.sqlite.specs.Does.{Tally, Does, OnRows, AtPlace}
use Rattle.sqlite.specs.Effect.{Database, IsDatabase, value_rows}
use Rattle.sqlite.specs.Rows.{Written, Task, stamped, rowids_for, count_of}
use Rattle.sqlite.specs.Listing.{understood}
use Rattle.sqlite.specs.State.{State, mode_of, Executes, ExecutesIn}
use Rattle.sqlite.proofs.Callers.{IsPlain, command_of, statement_of, runs_as, one_step}
use Rattle.sqlite_sql.specs.Term.{eval_all}
use Rattle.sqlite_resolve.specs.declared.error.CompileError.{CompileError}
use Rattle.br_store.specs.declared.name_numbers.Dictionary.{Dictionary}
use Rattle.br_store.specs.declared.name_numbers.Dictionary.TheVariants.{Client, FileSet, Media, Path}
use Rattle.br_catalog_tables.specs.TreePlaces.{Layout}
use Rattle.br_catalog_tables.specs.Tables.{tables_at, version, client, fileset, media, path, job, job_media, file}
use Rattle.br_catalog_tables.specs.KnownSchemas.{HasAll, Owns, Stands, with_own}
use Rattle.br_store.specs.Names.{tree_of, word, name_row, insert_text}
use Rattle.br_store.specs.Held.{Added}
use Rattle.br_store.proofs.Inserted.{MayInsert, one_value_row}
use Rattle.br_store.proofs.InsertTexts.{insert_version, insert_version_is, version_row, insert_job, insert_job_is, job_row, insert_span, insert_span_is, span_row, insert_file, insert_file_is, file_row, insert_name_is, name_cells}

pub either : (b : Bool) (x : Value) → cond b x x ≡ x
either true x = refl
either false x = refl

pub cast_int : (n : ℤ) → cast Integer (Int n) ≡ Int n
unfolding unary
cast_int n = either _ (Int n)

pub cast_null : cast Integer Null ≡ Null
unfolding unary
cast_null = either _ Null

-- a part that gave a value did not stop on the way
pub went : {B E R : Type 0} {b : B} {Stops : E → Type 0} → ((stop : E) × Stops stop × (Ok b ≡ Err stop)) ⊎ R → R
went (inl stopped) = absurd (let e = stopped.2 in cc)
went (inr on) = on

pub same_value : {B E : Type 0} {a b : B} → ◌≡◌ {A = Result B E} (Ok a) (Ok b) → a ≡ b
same_value e = cc

not_counted : (b c : Bool) (P Q : Type 0) → b ≡ false → MatchBool (cond b c false) P Q → Q
not_counted true c P Q e h = absurd cc
not_counted false c P Q e h = h

-- the table keeps no count
pub record IsSimple (schema : Schema) (at : ℕ) (table : Table) : Type 0 where
  pub found : slice_get schema.tables at ≡ Some table
  pub uncounted : table.is_counted ≡ false

module _ (schema : Schema) (at : ℕ) (table : Table) (simple : IsSimple schema at table) (sql : List ℕ) (params : Row) (old new : State) (has : old.now.schema ≡ schema)
    (terms : List Term) (width : ℕ) (is : command_of (understood schema sql) ≡ Insert at (Values terms width)) (plain : IsPlain (understood schema sql)) where
  pub inserts : (count : ℕ) → Executes sql params old new (Ok count)
      → (new.now.schema ≡ schema) × Applies schema Enforced old.now.trees (edit_of old.now.trees table [] Chosen 0 (value_rows (stamped table params) width (length terms / width) terms)) new.now.trees
      × IsDatabase new.now
  inserts count h =
      let command = Insert at (Values terms width) in
      let db = old.now.trees in
      let w = runs_as sql params old new schema has command is plain count h in
      let text = statement_of sql (understood schema sql) in
      let task : Task = record { limit = old.step_limit; keys = Enforced; schema = schema; table = table; params = params } in
      let does = subst (λ s. Does old.step_limit (mode_of old) params (record old.now { schema = s }) text None command (Ok (w.tally, new.now))) has w.changed in
      let on : OnRows task (mode_of old) None command db (Ok (w.tally, new.now)) =
      subst (λ o. AtPlace (λ t. OnRows (record task { table = t }) (mode_of old) None command db) o (Ok (w.tally, new.now))) simple.found does in
      let done = went on in
      let now = ap (λ (p : Tally × Database). p.1) (same_value (went (went done.2).2).2) in
      let given = went done.1 in
      let counted = went given.2 in
      let written = went counted.2 in
      let settled = went written.2 in
      let kept = not_counted table.is_counted _ _ _ simple.uncounted settled.1 in
      let trees : done.0.trees ≡ written.0 = ap (λ (it : Written). it.trees) (same_value settled.2) ∙ same_value kept in
      let edit = edit_of db table [] (rowids_for table (count_of counted.0)) 0 given.0 in
      let one = one_step schema Enforced db written.0 edit (no_works schema Enforced 0 table.tree edit.news) written.1 in
      let all = subst₂ (λ b rows. Applies schema Enforced db (edit_of db table [] (cond b (Above (count_of counted.0)) Chosen) 0 rows) written.0) simple.uncounted given.1.1 one in
      let end = ap (λ (d : Database). d.trees) now ∙ trees in
      (ap (λ (d : Database). d.schema) now, subst (Applies schema Enforced db _) (sym end) all, w.sound)

pub is_fresh : (b : Bool) → (not b && true) ≡ true → b ≡ false
is_fresh true h = absurd cc
is_fresh false h = refl

-- a table of the schema is among its tables
pub has_table : (schema : Schema) (t : Table) → Stands schema t → Has schema.tables t
has_table schema t s = has_got schema.tables s.place t s.is

-- what holds of all tables of a schema, holds of the catalogue's
pub all_ours : (P : ℕ → Type 0) (schema : Schema) (l : Layout) (o : Owns) → HasAll schema l o → AllByRecursion (λ (t : Table). P t.tree) schema.tables → AllByRecursion (λ (t : Table). P t.tree) (tables_at l)
all_ours P schema l o has all =
    let at = λ (t : Table) (s : Stands schema t). all_has (λ (u : Table). P u.tree) schema.tables t all (has_table schema t s) in
    (at _ has.version, (at _ has.client, (at _ has.fileset, (at _ has.media, (at _ has.path, (at _ has.job, (at _ has.job_media, (at _ has.file, tt))))))))

-- a text that was executed was not refused
not_refused : (schema : Schema) (sql : List ℕ) (params : Row) (old new : State) (count : ℕ) (e : CompileError) → old.now.schema ≡ schema → understood schema sql ≡ Err e → Executes sql params old new (Ok count) → ⊥
unfolding ExecutesIn
not_refused schema sql params old new count e has refused h =
    let both = sym h.1.is ∙ ap (λ s. understood s sql) has ∙ refused in cc

-- what a text adds that inserts one row
pub adds : (schema : Schema) (l : Layout) (o : Owns) → HasAll schema l o → (t : Table) (s : Stands schema t) → t.is_counted ≡ false
    → (sql : List ℕ) (params : Row) (old new : State) (count : ℕ) (terms : List Term) (width : ℕ) → MayInsert schema sql s.place terms (width + 1) → length terms ≡ width + 1
    → stamped t params ≡ params → old.now.schema ≡ schema → Executes sql params old new (Ok count)
    → (row : Row) → numbered Chosen (old.now.trees t.tree) (cast_row t (eval_all terms (params ∷ [])) ∷ []) ≡ row ∷ []
    → Added schema l t.tree row old.now new.now
adds schema l o all t s simple sql params old new count terms width (inr refused) wide timeless has h row news = absurd (not_refused schema sql params old new count refused.0 has refused.1 h)
adds schema l o all t s simple sql params old new count terms width (inl is) wide timeless has h row news =
    let did = inserts schema s.place t (record { found = s.is; uncounted = simple }) sql params old new has terms (width + 1) is.command is.plain count h in
    let rows : value_rows (stamped t params) (width + 1) (length terms / (width + 1)) terms ≡ eval_all terms (params ∷ []) ∷ [] =
    ap (λ p. value_rows p (width + 1) (length terms / (width + 1)) terms) timeless ∙ one_value_row params terms width wide in
    let source = eval_all terms (params ∷ []) in
    let a : Applies schema Enforced old.now.trees (edit_of old.now.trees t [] Chosen 0 (source ∷ [])) new.now.trees =
    subst (λ r. Applies schema Enforced old.now.trees (edit_of old.now.trees t [] Chosen 0 r) new.now.trees) rows did.1 in
    record {
      schema = did.0;
      sound = did.2;
      rows = a.rows ∙ ap (λ all. put_all (old.now.trees t.tree) all) news;
      fresh = is_fresh _ (ap (λ all. are_fresh (old.now.trees t.tree) all) (sym news) ∙ a.fresh);
      others = all_ours (λ n. (n ≡ t.tree → ⊥) → new.now.trees n ≡ old.now.trees n) schema l o all a.tables;
    }

module _ (schema : Schema) (l : Layout) (o : Owns) (has : HasAll schema l o) where
  pub puts_version : (old new : State) (count : ℕ) → old.now.schema ≡ schema → Executes insert_version [] old new (Ok count)
      → (more : Row) × Added schema l l.version (Int (next_rowid (old.now.trees l.version)) ∷ Int (pos 2) ∷ more) old.now new.now
  puts_version old new count at h =
      let t = with_own (version l.version) o.version in
      let is = insert_version_is schema l o has in
      let rest = eval_all is.more ([] ∷ []) in
      let more = cast_all o.version.columns rest in
      let row : Row = Null ∷ Int (pos 2) ∷ more in
      let cast_is : cast_row t (Null ∷ Int (pos 2) ∷ rest) ≡ row = rw (cast_null, cast_int (pos 2)) refl in
      (more, adds schema l o has t has.version refl insert_version [] old new count (version_row is.more) _ is.inserts is.wide refl at h _ (ap (λ r. numbered Chosen (old.now.trees l.version) (r ∷ [])) cast_is))

  pub puts_job : (old new : State) (id client start fileset session time : ℤ) (kind level status : List ℕ) (count : ℕ) → old.now.schema ≡ schema
      → Executes insert_job (Int id ∷ Text kind ∷ Text level ∷ Int client ∷ Text status ∷ Int start ∷ Int fileset ∷ Int session ∷ Int time ∷ []) old new (Ok count)
      → (more : Row) × Added schema l l.job (Int id ∷ Null ∷ Text kind ∷ Text level ∷ Int client ∷ Text status ∷ Int start ∷ Int fileset ∷ Int session ∷ Int time ∷ more) old.now new.now
  puts_job old new id client start fileset session time kind level status count at h =
      let params : Row = Int id ∷ Text kind ∷ Text level ∷ Int client ∷ Text status ∷ Int start ∷ Int fileset ∷ Int session ∷ Int time ∷ [] in
      let t = with_own (job l.job) o.job in
      let is = insert_job_is schema l o has in
      let rest = eval_all is.more (params ∷ []) in
      let more = cast_all o.job.columns rest in
      let front = λ (r : Row). Int id ∷ Null ∷ Text kind ∷ Text level ∷ Int client ∷ Text status ∷ Int start ∷ Int fileset ∷ Int session ∷ Int time ∷ r in
      let cast_is : cast_row t (front rest) ≡ front more = rw (cast_int id, cast_null, cast_int client, cast_int start, cast_int fileset, cast_int session, cast_int time) refl in
      (more, adds schema l o has t has.job refl insert_job params old new count (job_row is.more) _ is.inserts is.wide refl at h _ (ap (λ r. numbered Chosen (old.now.trees l.job) (r ∷ [])) cast_is))

  pub puts_span : (old new : State) (job media first last start_file end_file start_block end_block vol_index : ℤ) (count : ℕ) → old.now.schema ≡ schema
      → Executes insert_span (Int job ∷ Int media ∷ Int first ∷ Int last ∷ Int start_file ∷ Int end_file ∷ Int start_block ∷ Int end_block ∷ Int vol_index ∷ []) old new (Ok count)
      → (more : Row) × Added schema l l.job_media (Int (next_rowid (old.now.trees l.job_media)) ∷ Null ∷ Int job ∷ Int media ∷ Int first ∷ Int last ∷ Int start_file ∷ Int end_file ∷ Int start_block ∷ Int end_block ∷ Int vol_index ∷ more) old.now new.now
  puts_span old new job media first last start_file end_file start_block end_block vol_index count at h =
      let params : Row = Int job ∷ Int media ∷ Int first ∷ Int last ∷ Int start_file ∷ Int end_file ∷ Int start_block ∷ Int end_block ∷ Int vol_index ∷ [] in
      let t = with_own (job_media l.job_media) o.job_media in
      let is = insert_span_is schema l o has in
      let rest = eval_all is.more (params ∷ []) in
      let more = cast_all o.job_media.columns rest in
      let front = λ (r : Row). Null ∷ Null ∷ Int job ∷ Int media ∷ Int first ∷ Int last ∷ Int start_file ∷ Int end_file ∷ Int start_block ∷ Int end_block ∷ Int vol_index ∷ r in
      let cast_is : cast_row t (front rest) ≡ front more =
      rw (cast_null, cast_int job, cast_int media, cast_int first, cast_int last, cast_int start_file, cast_int end_file, cast_int start_block, cast_int end_block, cast_int vol_index) refl in
      (more, adds schema l o has t has.job_media refl insert_span params old new count (span_row is.more) _ is.inserts is.wide refl at h _ (ap (λ r. numbered Chosen (old.now.trees l.job_media) (r ∷ [])) cast_is))

  pub puts_file : (old new : State) (index job path : ℤ) (name lstat digest : List ℕ) (count : ℕ) → old.now.schema ≡ schema
      → Executes insert_file (Int index ∷ Int job ∷ Int path ∷ Blob name ∷ Text lstat ∷ Text digest ∷ []) old new (Ok count)
      → (more : Row) × Added schema l l.file (Int (next_rowid (old.now.trees l.file)) ∷ Null ∷ Int index ∷ Int job ∷ Int path ∷ Blob name ∷ Text lstat ∷ Text digest ∷ more) old.now new.now
  puts_file old new index job path name lstat digest count at h =
      let params : Row = Int index ∷ Int job ∷ Int path ∷ Blob name ∷ Text lstat ∷ Text digest ∷ [] in
      let t = with_own (file l.file) o.file in
      let is = insert_file_is schema l o has in
      let rest = eval_all is.more (params ∷ []) in
      let more = cast_all o.file.columns rest in
      let front = λ (r : Row). Null ∷ Null ∷ Int index ∷ Int job ∷ Int path ∷ Blob name ∷ Text lstat ∷ Text digest ∷ r in
      let cast_is : cast_row t (front rest) ≡ front more = rw (cast_null, cast_int index, cast_int job, cast_int path) refl in
      (more, adds schema l o has t has.file refl insert_file params old new count (file_row is.more) _ is.inserts is.wide refl at h _ (ap (λ r. numbered Chosen (old.now.trees l.file) (r ∷ [])) cast_is))

  -- what the texts over names add
  pub puts_name : (d : Dictionary) (old new : State) (name : List ℕ) (count : ℕ) → old.now.schema ≡ schema
      → Executes (insert_text d) (word d name ∷ []) old new (Ok count)
      → (more : Row) × Added schema l (tree_of l d) (name_row d (next_rowid (old.now.trees (tree_of l d))) name ++ more) old.now new.now
  puts_name Client old new name count at h =
      let params : Row = Text name ∷ [] in
      let t = with_own (client l.client) o.client in
      let is = insert_name_is schema l o has Client in
      let rest = eval_all is.more (params ∷ []) in
      let more = cast_all o.client.columns rest in
      let front = λ (r : Row). Null ∷ Null ∷ Text name ∷ r in
      let cast_is : cast_row t (front rest) ≡ front more = rw cast_null refl in
      (more, adds schema l o has t has.client refl (insert_text Client) params old new count (name_cells Client is.more) _ is.inserts is.wide refl at h _ (ap (λ r. numbered Chosen (old.now.trees l.client) (r ∷ [])) cast_is))
  puts_name FileSet old new name count at h =
      let params : Row = Text name ∷ [] in
      let t = with_own (fileset l.fileset) o.fileset in
      let is = insert_name_is schema l o has FileSet in
      let rest = eval_all is.more (params ∷ []) in
      let more = cast_all o.fileset.columns rest in
      let front = λ (r : Row). Null ∷ Null ∷ Text name ∷ r in
      let cast_is : cast_row t (front rest) ≡ front more = rw cast_null refl in
      (more, adds schema l o has t has.fileset refl (insert_text FileSet) params old new count (name_cells FileSet is.more) _ is.inserts is.wide refl at h _ (ap (λ r. numbered Chosen (old.now.trees l.fileset) (r ∷ [])) cast_is))
  puts_name Media old new name count at h =
      let params : Row = Text name ∷ [] in
      let t = with_own (media l.media) o.media in
      let is = insert_name_is schema l o has Media in
      let rest = eval_all is.more (params ∷ []) in
      let more = cast_all o.media.columns rest in
      let front = λ (r : Row). Null ∷ Null ∷ Text name ∷ Text (codes "File") ∷ r in
      let cast_is : cast_row t (front rest) ≡ front more = rw cast_null refl in
      (more, adds schema l o has t has.media refl (insert_text Media) params old new count (name_cells Media is.more) _ is.inserts is.wide refl at h _ (ap (λ r. numbered Chosen (old.now.trees l.media) (r ∷ [])) cast_is))
  puts_name Path old new name count at h =
      let params : Row = Blob name ∷ [] in
      let t = with_own (path l.path) o.path in
      let is = insert_name_is schema l o has Path in
      let rest = eval_all is.more (params ∷ []) in
      let more = cast_all o.path.columns rest in
      let front = λ (r : Row). Null ∷ Null ∷ Blob name ∷ r in
      let cast_is : cast_row t (front rest) ≡ front more = rw cast_null refl in
      (more, adds schema l o has t has.path refl (insert_text Path) params old new count (name_cells Path is.more) _ is.inserts is.wide refl at h _ (ap (λ r. numbered Chosen (old.now.trees l.path) (r ∷ [])) cast_is))
