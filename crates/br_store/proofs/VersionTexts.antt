-- What the query over the versions means, in any schema with the table of the version.
use Rattle.std.proofs.Common.{arith, ◌≡◌, ◌-◌, ℕ, true, false, nat_lt, nat_le, ◌^◌, pos, negsuc, List, [], ◌∷◌, map, codes, Option, None, Some, Ok, refl, ◌∙◌}
use Rattle.std.specs.List.{AllByRecursion}
use Rattle.sqlite.specs.declared.types.Value.TheVariants.{Int}
use Rattle.sqlite.specs.Collation.TheVariants.{Binary}
use Rattle.sqlite.specs.Schema.{Schema}
use Rattle.sqlite.specs.Table.{Table}
use Rattle.sqlite.specs.Kind.TheVariants.{Integer}
use Rattle.sqlite.specs.Query.{inner, end}
use Rattle.sqlite.specs.Term.{lit, col}
use Rattle.sqlite_ast.specs.declared.Expr.TheVariants as e
use Rattle.sqlite_ast.specs.declared.Core.{Core}
use Rattle.sqlite_ast.specs.declared.Select.{Select as Written}
use Rattle.sqlite_ast.specs.declared.Sort.{Sort}
use Rattle.sqlite_ast.specs.declared.Source.{Source}
use Rattle.sqlite_ast.specs.declared.Shown.{Shown}
use Rattle.sqlite_ast.specs.declared.Statement.TheVariants as written
use Rattle.sqlite_draft.specs.declared.join.Step.TheVariants.{Inner}
use Rattle.sqlite_draft.specs.declared.query.Draft.{Draft}
use Rattle.sqlite_schema.specs.Names.{same_name}
use Rattle.sqlite_value.specs.Keys.{ascending}
use Rattle.sqlite_value.specs.declared.keys.Collation.{Collation}
use Rattle.sqlite_resolve.specs.declared.scope.Bound.{Bound}
use Rattle.sqlite_resolve.specs.declared.scope.Output.{Output}
use Rattle.sqlite_resolve.specs.declared.state.Carried.{Carried}
use Rattle.sqlite_resolve.specs.Lowering.{max_budget, nothing, alone}
use Rattle.sqlite_resolve.specs.Compile.{first}
use Rattle.sqlite_resolve.specs.Program.{program, query, sources, Building}
use Rattle.sqlite_resolve.specs.Body.{bounds, joins, tests}
use Rattle.sqlite_resolve.specs.Order.{sorts}
use Rattle.sqlite_resolve.specs.Expr.{lower}
use Rattle.sqlite_resolve.specs.Select.{ungrouped}
use Rattle.sqlite_tied.specs.Compute.{everything}
use Rattle.br_catalog_tables.specs.Tables.{column, version}
use Rattle.br_catalog_tables.specs.KnownSchemas.{Own, Stands, with_own}
use Rattle.br_store.proofs.Asks.{Shows, shows_from, versions_query, select_versions, version_names}
use Rattle.br_store.proofs.Compiled.{pick}
use Rattle.br_store.proofs.Syntax.{core_of, select_of, order_by, from_table, out_from}
use Rattle.br_store.proofs.Found.{over, st}
use Rattle.br_store.proofs.Parts.{bound_is, inner_is, rowid_sorted}
use Rattle.br_store.proofs.Columns.{AreAt, Asked, Sees, ask, asks, bind, output, only_in, only_is, last_after}
use Rattle.br_store.proofs.Whole.{OutCore, OutSelect, answer_is, select_planned}
use Rattle.br_store.proofs.Lookups.{by_tree}
use Rattle.sqlite_ast.specs.declared.Expr.TheOpen.{Expr-F}
use Rattle.sqlite_resolve.specs.Order.{alias_at}
use Rattle.sqlite_resolve.specs.declared.scope.Found.TheVariants.{Rowid}
use Rattle.sqlite_resolve.specs.Scope.{hit, is_among, is_rowid, only, rowid_in}

-- a table that is stored is not among those that a statement computes
stored_below : (tree : ℕ) → nat_le (2 ^ 31) tree ≡ false → nat_lt tree (2 ^ 31) ≡ true
stored_below tree h = grind arith

module _ (schema : Schema) (tree : ℕ) (own : Own) (table : Stands schema (with_own (version tree) own)) where
  abbrev here : Table
  here = with_own (version tree) own

  abbrev bound_all : List Bound
  bound_all = bind (codes "Version") table.place 1 ∷ []

  abbrev all_here : List Table
  all_here = here ∷ []

  abbrev asked : List Asked
  asked = record (ask (bind (codes "Version") table.place 1) here (codes "VersionId") (codes "VersionId") 0 (column (codes "VersionId") Integer)) { table = None } ∷ []

  are_at : AreAt schema bound_all all_here
  are_at = (table.is, tt)

  sees_all : AllByRecursion (Sees schema bound_all all_here) asked
  unfolding same_name is_among
  sees_all = (record { only = refl; got = table.is; has = refl }, tt)

  abbrev shown_all : List Shown
  shown_all = map asks asked

  abbrev from_all : List Source
  from_all = from_table (codes "Version") None ∷ []

  abbrev order : List Sort
  order = order_by (e.Column None (codes "rowid")) ∷ []

  abbrev core : Core
  core = core_of shown_all from_all None

  abbrev select : Written
  select = select_of core order

  select_opens : OutSelect select core order
  unfolding everything
  select_opens = refl

  core_opens : OutCore core shown_all from_all None
  unfolding everything
  core_opens = refl

  is_read : (pick (first select_versions)).statement ≡ written.Select select
  unfolding everything
  is_read = refl

  is_first : first select_versions ≡ Ok (pick (first select_versions))
  unfolding everything
  is_first = refl

  is_timeless : (pick (first select_versions)).formats ≡ []
  unfolding everything
  is_timeless = refl

  are_stored : (g : Schema → Written → Building (Draft × List (List ℕ) × List (Option Collation))) → sources g schema from_all [] ≡ Ok (schema, [])
  unfolding everything
  are_stored g = refl

  binds_all : bounds schema from_all (st 1 max_budget nothing) ≡ Ok (bound_all, st 2 max_budget nothing)
  unfolding bounds
  binds_all = rw (bound_is schema (codes "Version") table.place 1 max_budget nothing table.named refl) refl

  joins_all : (shown : List Output) (k : Carried) → joins lower (over schema bound_all shown false true) bound_all from_all (st 2 (max_budget - 1) k)
      ≡ Ok (record { steps = Inner tree ∷ []; filter = [] }, st 2 (max_budget - 1) k)
  unfolding joins
  joins_all shown k =
      rw (
        out_from (codes "Version"),
        inner_is (over schema bound_all shown false true) bound_all (record { steps = []; filter = [] }) (codes "Version") (codes "Version") table.place 1 here (st 2 (max_budget - 1) k) table.is,
      ) refl

  no_column : only_in None (codes "rowid") None bound_all all_here ≡ Ok None
  unfolding is_among
  no_column = rw (table.numbered refl) refl

  by_number : only schema None (codes "rowid") true bound_all ≡ Ok (Some (Rowid 1 table.place))
  unfolding only hit rowid_in is_among
  by_number = rw (table.is, stored_below tree table.stored) refl

  is_number : is_rowid (codes "rowid") ≡ true
  unfolding is_rowid same_name
  is_number = refl

  no_alias : alias_at (map output asked) (Expr-F.Column None (codes "rowid")) ≡ None
  no_alias = refl

  sorts_all : (k : Carried) → sorts lower (over schema bound_all (map output asked) false true) (map output asked) order (st 2 (max_budget - 1) k) ≡ Ok ((col 1 0, ascending Binary) ∷ [], st 2 (max_budget - 2) nothing)
  unfolding sorts alone
  sorts_all k =
      rw (rowid_sorted schema bound_all (map output asked) false [] (codes "rowid") 1 table.place 2 (max_budget - 1) k
      (only_is schema None (codes "rowid") bound_all all_here are_at ∙ no_column) is_number by_number refl no_alias refl) refl

  tests_all : (k : Carried) → tests lower (over schema bound_all (map output asked) false true) [] None (st 2 (max_budget - 1) k) ≡ Ok ([], st 2 (max_budget - 1) k)
  unfolding tests
  tests_all k = refl

  abbrev draft : Draft
  draft = record {
    from = inner tree end;
    filter = [];
    group = None;
    project = col 1 1 ∷ [];
    distinct = false;
    collations = [];
    order = (col 1 0, ascending Binary) ∷ [];
    limit = lit (Int (negsuc 0));
    offset = lit (Int (pos 0));
  }

  abbrev answer : Draft × List (List ℕ) × List (Option Collation)
  answer = (draft, version_names, Some Binary ∷ [])

  means : query schema select ≡ Ok (answer, [])
  unfolding ungrouped
  means =
      let last = last_after nothing asked in
      answer_is schema select core from_all None order bound_all all_here asked (Inner tree ∷ []) [] [] ((col 1 0, ascending Binary) ∷ [])
      2 (max_budget - 1) (max_budget - 1) (max_budget - 2) last last nothing select_opens core_opens are_stored binds_all are_at sees_all
      (refl, tt) (joins_all (map output asked) last) (tests_all last) (sorts_all last)

  is_typed : program schema [] draft ≡ Ok (record { lets = []; body = versions_query tree })
  unfolding program
  is_typed = rw (table.stored, by_tree schema here table) refl

  pub select_versions_is : Shows schema select_versions (versions_query tree) version_names
  select_versions_is = shows_from schema select_versions (pick (first select_versions)) (versions_query tree) version_names is_first
      (select_planned schema (pick (first select_versions)) select answer (record { lets = []; body = versions_query tree }) is_read is_timeless means is_typed)
