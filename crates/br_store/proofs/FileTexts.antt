-- What the query over files means, in any schema with the catalogue's tables.
use Rattle.std.proofs.Common.{◌≡◌, ◌-◌, ℕ, true, false, pos, negsuc, List, [], ◌∷◌, map, codes, Option, None, Some, Ok, refl, ◌∙◌}
use Rattle.std.specs.List.{AllByRecursion}
use Rattle.sqlite.specs.declared.types.Value.TheVariants.{Int}
use Rattle.sqlite.specs.Collation.TheVariants.{Binary}
use Rattle.sqlite.specs.Schema.{Schema}
use Rattle.sqlite.specs.Table.{Table}
use Rattle.sqlite.specs.Kind.TheVariants.{Integer, Text, Any}
use Rattle.sqlite.specs.Query.{inner, end}
use Rattle.sqlite.specs.Term.{Term, lit, col, op2}
use Rattle.sqlite_ast.specs.declared.Binary.TheVariants as binary
use Rattle.sqlite_ast.specs.declared.Expr.TheVariants as e
use Rattle.sqlite_ast.specs.declared.Core.{Core}
use Rattle.sqlite_ast.specs.declared.Select.{Select as Written}
use Rattle.sqlite_ast.specs.declared.Sort.{Sort}
use Rattle.sqlite_ast.specs.declared.Source.{Source}
use Rattle.sqlite_ast.specs.declared.Shown.{Shown}
use Rattle.sqlite_ast.specs.declared.Statement.TheVariants as written
use Rattle.sqlite_draft.specs.declared.join.Step.TheVariants.{Inner}
use Rattle.sqlite_draft.specs.declared.query.Draft.{Draft}
use Rattle.sqlite_schema.specs.Names.{same_name}
use Rattle.sqlite_sql.specs.declared.ops.BinaryOp.TheVariants.{Compare}
use Rattle.sqlite_sql.specs.declared.ops.CompareOp.TheVariants.{Eq}
use Rattle.sqlite_value.specs.Keys.{ascending}
use Rattle.sqlite_value.specs.declared.keys.Collation.{Collation}
use Rattle.sqlite_resolve.specs.declared.scope.Bound.{Bound}
use Rattle.sqlite_resolve.specs.declared.scope.Output.{Output}
use Rattle.sqlite_resolve.specs.declared.state.Carried.{Carried}
use Rattle.sqlite_resolve.specs.Lowering.{max_budget, nothing, chosen, first_found, alone}
use Rattle.sqlite_resolve.specs.Compare.{compared, affinity_of, of_column, converted}
use Rattle.sqlite_resolve.specs.Compile.{first}
use Rattle.sqlite_resolve.specs.Program.{program, query, sources, Building}
use Rattle.sqlite_resolve.specs.Body.{bounds, joins, tests}
use Rattle.sqlite_resolve.specs.Order.{sorts}
use Rattle.sqlite_resolve.specs.Expr.{lower}
use Rattle.sqlite_resolve.specs.Select.{ungrouped}
use Rattle.sqlite_tied.specs.Compute.{everything}
use Rattle.br_catalog_tables.specs.TreePlaces.{Layout}
use Rattle.br_catalog_tables.specs.Tables.{column, key_column, file, path}
use Rattle.br_catalog_tables.specs.KnownSchemas.{HasAll, Owns, with_own}
use Rattle.br_store.proofs.Asks.{Shows, shows_from, files_query, select_files, file_names}
use Rattle.br_store.proofs.Compiled.{pick}
use Rattle.br_store.proofs.Syntax.{core_of, select_of, order_by, from_table, out_from}
use Rattle.br_store.proofs.Found.{over, st}
use Rattle.br_store.proofs.Parts.{bound_is, joined_is, inner_is, inner_on_is, sorted_is}
use Rattle.br_store.proofs.Columns.{AreAt, Asked, Sees, ask, asks, bind, carried, output, only_is, last_after}
use Rattle.br_store.proofs.Tests.{on_is, column_of}
use Rattle.br_store.proofs.Whole.{OutCore, OutSelect, answer_is, select_planned}
use Rattle.br_store.proofs.Lookups.{by_tree}

module _ (schema : Schema) (l : Layout) (o : Owns) (has : HasAll schema l o) where
  abbrev file_here : Table
  file_here = with_own (file l.file) o.file

  abbrev file_bound : Bound
  file_bound = bind (codes "File") has.file.place 1

  abbrev path_here : Table
  path_here = with_own (path l.path) o.path

  abbrev path_bound : Bound
  path_bound = bind (codes "Path") has.path.place 2

  abbrev bound_all : List Bound
  bound_all = file_bound ∷ path_bound ∷ []

  abbrev all_here : List Table
  all_here = file_here ∷ path_here ∷ []

  abbrev asked : List Asked
  asked =
      ask file_bound file_here (codes "JobId") (codes "File.JobId") 2 (column (codes "JobId") Integer)
      ∷ ask file_bound file_here (codes "FileIndex") (codes "File.FileIndex") 1 (column (codes "FileIndex") Integer)
      ∷ ask path_bound path_here (codes "Path") (codes "Path.Path") 1 (column (codes "Path") Any)
      ∷ ask file_bound file_here (codes "Filename") (codes "File.Filename") 4 (column (codes "Filename") Any)
      ∷ ask file_bound file_here (codes "LStat") (codes "File.LStat") 5 (column (codes "LStat") Text)
      ∷ ask file_bound file_here (codes "MD5") (codes "File.MD5") 6 (column (codes "MD5") Text) ∷ []

  abbrev left_0 : Asked
  left_0 = ask path_bound path_here (codes "PathId") [] 0 (key_column (codes "PathId"))

  abbrev right_0 : Asked
  right_0 = ask file_bound file_here (codes "PathId") [] 3 (column (codes "PathId") Integer)

  sees_left_0 : Sees schema bound_all all_here left_0
  unfolding same_name
  sees_left_0 = record { only = refl; got = has.path.is; has = refl }

  sees_right_0 : Sees schema bound_all all_here right_0
  unfolding same_name
  sees_right_0 = record { only = refl; got = has.file.is; has = refl }

  abbrev test_0 : Term
  test_0 = op2 (Compare Eq Binary) (col 2 0) (col 1 4)

  compared_0 : (shown : List Output) → compared (over schema bound_all shown false true) (Compare Eq (chosen (carried left_0) (carried right_0))) (col 2 0) (col 1 4) ≡ test_0
  unfolding compared affinity_of of_column converted chosen first_found
  compared_0 shown = rw has.file.is refl

  abbrev sorted_by : Asked
  sorted_by = ask file_bound file_here (codes "FileId") [] 0 (key_column (codes "FileId"))

  sees_sorted_by : Sees schema bound_all all_here sorted_by
  unfolding same_name
  sees_sorted_by = record { only = refl; got = has.file.is; has = refl }

  here : AreAt schema bound_all all_here
  here = (has.file.is, (has.path.is, tt))

  sees_all : AllByRecursion (Sees schema bound_all all_here) asked
  unfolding same_name
  sees_all =
      (record { only = refl; got = has.file.is; has = refl }, (record { only = refl; got = has.file.is; has = refl }, (record { only = refl; got = has.path.is; has = refl }, (record { only = refl; got = has.file.is; has = refl }, (record { only = refl; got = has.file.is; has = refl }, (record { only = refl; got = has.file.is; has = refl }, tt))))))

  abbrev shown_all : List Shown
  shown_all = map asks asked

  abbrev from_all : List Source
  from_all =
      from_table (codes "File") None
      ∷ from_table (codes "Path") (Some (e.Binary binary.Eq (column_of left_0) (column_of right_0))) ∷ []

  abbrev order : List Sort
  order = order_by (column_of sorted_by) ∷ []

  abbrev core : Core
  core = core_of shown_all from_all None

  abbrev select : Written
  select = select_of core order

  select_opens : OutSelect select core order
  unfolding everything
  select_opens = refl

  core_opens : OutCore core shown_all from_all None
  unfolding everything
  core_opens = refl

  is_read : (pick (first select_files)).statement ≡ written.Select select
  unfolding everything
  is_read = refl

  is_first : first select_files ≡ Ok (pick (first select_files))
  unfolding everything
  is_first = refl

  is_timeless : (pick (first select_files)).formats ≡ []
  unfolding everything
  is_timeless = refl

  are_stored : (g : Schema → Written → Building (Draft × List (List ℕ) × List (Option Collation))) → sources g schema from_all [] ≡ Ok (schema, [])
  unfolding everything
  are_stored g = refl

  binds_all : bounds schema from_all (st 1 max_budget nothing) ≡ Ok (bound_all, st 3 max_budget nothing)
  unfolding bounds
  binds_all =
      rw (
        bound_is schema (codes "File") has.file.place 1 max_budget nothing has.file.named refl,
        joined_is schema (codes "Path") _ has.path.place 2 max_budget nothing has.path.named refl,
      ) refl

  joins_all : (shown : List Output) (k : Carried) → joins lower (over schema bound_all shown false true) bound_all from_all (st 3 (max_budget - 6) k)
      ≡ Ok (record { steps = Inner l.file ∷ Inner l.path ∷ []; filter = test_0 ∷ [] }, st 3 (max_budget - 9) nothing)
  unfolding joins
  joins_all shown k =
      let cx = over schema bound_all shown false true in
      rw (
        out_from (codes "File"),
        inner_is cx bound_all (record { steps = []; filter = [] }) (codes "File") (codes "File") has.file.place 1 file_here (st 3 (max_budget - 6) k) has.file.is,
        inner_on_is cx bound_all (record { steps = Inner l.file ∷ []; filter = [] }) (codes "Path") (codes "Path") has.path.place 2 path_here _ test_0 _ _ has.path.is
            (on_is schema bound_all all_here shown false true left_0 right_0 test_0 3 (max_budget - 6) k here sees_left_0 sees_right_0 refl refl refl (compared_0 shown)),
      ) refl

  sorts_all : (shown : List Output) → sorts lower (over schema bound_all shown false true) shown order (st 3 (max_budget - 9) nothing) ≡ Ok ((col 1 0, ascending Binary) ∷ [], st 3 (max_budget - 10) (carried sorted_by))
  unfolding sorts alone
  sorts_all shown =
      rw (sorted_is schema bound_all shown false [] (Some (codes "File")) (codes "FileId") 1 has.file.place 0 file_here (key_column (codes "FileId")) 3 (max_budget - 9) nothing
      (only_is schema (Some (codes "File")) (codes "FileId") bound_all all_here here ∙ sees_sorted_by.only) has.file.is refl refl refl refl) refl

  tests_all : (shown : List Output) → tests lower (over schema bound_all shown false true) (test_0 ∷ []) None (st 3 (max_budget - 9) nothing) ≡ Ok (test_0 ∷ [], st 3 (max_budget - 9) nothing)
  unfolding tests
  tests_all shown = refl

  abbrev draft : Draft
  draft = record {
    from = inner l.file (inner l.path end);
    filter = test_0 ∷ [];
    group = None;
    project = col 1 3 ∷ col 1 2 ∷ col 2 2 ∷ col 1 5 ∷ col 1 6 ∷ col 1 7 ∷ [];
    distinct = false;
    collations = [];
    order = (col 1 0, ascending Binary) ∷ [];
    limit = lit (Int (negsuc 0));
    offset = lit (Int (pos 0));
  }

  abbrev answer : Draft × List (List ℕ) × List (Option Collation)
  answer = (draft, file_names, Some Binary ∷ Some Binary ∷ Some Binary ∷ Some Binary ∷ Some Binary ∷ Some Binary ∷ [])

  means : query schema select ≡ Ok (answer, [])
  unfolding ungrouped
  means =
      let columns = map output asked in
      let last = last_after nothing asked in
      answer_is schema select core from_all None order bound_all all_here asked (Inner l.file ∷ Inner l.path ∷ []) (test_0 ∷ []) (test_0 ∷ []) ((col 1 0, ascending Binary) ∷ [])
      3 (max_budget - 9) (max_budget - 9) (max_budget - 10) nothing nothing (carried sorted_by) select_opens core_opens are_stored binds_all here sees_all
      (refl, (refl, (refl, (refl, (refl, (refl, tt)))))) (joins_all columns last) (tests_all columns) (sorts_all columns)

  is_typed : program schema [] draft ≡ Ok (record { lets = []; body = files_query l })
  unfolding program
  is_typed = rw (has.file.stored, by_tree schema file_here has.file, has.path.stored, by_tree schema path_here has.path) refl

  pub select_files_is : Shows schema select_files (files_query l) file_names
  select_files_is = shows_from schema select_files (pick (first select_files)) (files_query l) file_names is_first
      (select_planned schema (pick (first select_files)) select answer (record { lets = []; body = files_query l }) is_read is_timeless means is_typed)
