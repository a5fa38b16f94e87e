-- What a query for the number of a name means, in any schema with the table.
use Rattle.std.proofs.Common.{◌≡◌, ◌-◌, ℕ, true, false, pos, negsuc, List, [], ◌∷◌, map, Option, None, Some, Ok, refl}
use Rattle.sqlite.specs.declared.types.Value.TheVariants.{Int}
use Rattle.sqlite.specs.Collation.TheVariants.{Binary}
use Rattle.sqlite.specs.Schema.{Schema}
use Rattle.sqlite.specs.Table.{Table}
use Rattle.sqlite.specs.Query.{inner, end}
use Rattle.sqlite.specs.Term.{Term, lit, col, op2}
use Rattle.sqlite_ast.specs.declared.Binary.TheVariants as binary
use Rattle.sqlite_ast.specs.declared.Expr.{Expr}
use Rattle.sqlite_ast.specs.declared.Expr.TheVariants as e
use Rattle.sqlite_ast.specs.declared.Core.{Core}
use Rattle.sqlite_ast.specs.declared.Select.{Select as Written}
use Rattle.sqlite_ast.specs.declared.Source.{Source}
use Rattle.sqlite_ast.specs.declared.Statement.TheVariants as written
use Rattle.sqlite_draft.specs.declared.join.Step.TheVariants.{Inner}
use Rattle.sqlite_draft.specs.declared.query.Draft.{Draft}
use Rattle.sqlite_draft.specs.Query.{query_of}
use Rattle.sqlite_schema.specs.declared.schema.Column.{Column}
use Rattle.sqlite_schema.specs.Names.{place_of}
use Rattle.sqlite_sql.specs.declared.ops.BinaryOp.TheVariants.{Compare}
use Rattle.sqlite_sql.specs.declared.ops.CompareOp.TheVariants.{Eq}
use Rattle.sqlite_value.specs.declared.keys.Collation.{Collation}
use Rattle.sqlite_resolve.specs.declared.scope.Bound.{Bound}
use Rattle.sqlite_resolve.specs.declared.scope.Output.{Output}
use Rattle.sqlite_resolve.specs.declared.state.Carried.{Carried}
use Rattle.sqlite_resolve.specs.Lowering.{max_budget, nothing, chosen}
use Rattle.sqlite_resolve.specs.Compare.{compared}
use Rattle.sqlite_resolve.specs.Compile.{first}
use Rattle.sqlite_resolve.specs.Program.{program, query, sources, Building}
use Rattle.sqlite_resolve.specs.Body.{bounds, joins, tests}
use Rattle.sqlite_resolve.specs.Order.{sorts}
use Rattle.sqlite_resolve.specs.Expr.{lower}
use Rattle.sqlite_resolve.specs.Select.{ungrouped}
use Rattle.sqlite_tied.specs.Compute.{everything}
use Rattle.br_catalog_tables.specs.KnownSchemas.{Stands}
use Rattle.br_store.proofs.Asks.{Shows, shows_from}
use Rattle.br_store.proofs.Compiled.{pick}
use Rattle.br_store.proofs.Syntax.{core_of, select_of, shows_at, from_table, out_from}
use Rattle.br_store.proofs.Found.{over, st}
use Rattle.br_store.proofs.Parts.{bound_is, inner_is}
use Rattle.br_store.proofs.Columns.{Asked, Sees, bind, carried, output, last_after}
use Rattle.br_store.proofs.Tests.{given_is}
use Rattle.br_store.proofs.Whole.{OutCore, OutSelect, answer_is, select_planned}

-- a column of the table, by its name alone
abbrev pub asked_of : (t : Table) (at : ℕ) → List ℕ → ℕ → Column → Asked
asked_of t at name place column = record { table = None; name = name; text = name; slot = 1; at = at; place = place; home = t; column = column }

abbrev pub bound_of : Table → ℕ → List Bound
bound_of t at = bind t.name at 1 ∷ []

abbrev pub test_of : Table → Term
test_of t = op2 (Compare Eq Binary) (col 1 (place_of t 1)) (col 0 0)

abbrev pub draft_of : Table → Draft
draft_of t = record {
  from = inner t.tree end;
  filter = test_of t ∷ [];
  group = None;
  project = col 1 (place_of t 0) ∷ [];
  distinct = false;
  collations = [];
  order = [];
  limit = lit (Int (negsuc 0));
  offset = lit (Int (pos 0));
}

abbrev from_all : List ℕ → List Source
from_all table = from_table table None ∷ []

abbrev filter : List ℕ → Expr
filter name = e.Binary binary.Eq (e.Column None name) (e.Parameter 1)

abbrev core : List ℕ → List ℕ → List ℕ → Core
core table key name = core_of (shows_at None key key ∷ []) (from_all table) (Some (filter name))

abbrev pub select : List ℕ → List ℕ → List ℕ → Written
select table key name = select_of (core table key name) []

select_opens : (table key name : List ℕ) → OutSelect (select table key name) (core table key name) []
unfolding everything
select_opens table key name = refl

core_opens : (table key name : List ℕ) → OutCore (core table key name) (shows_at None key key ∷ []) (from_all table) (Some (filter name))
unfolding everything
core_opens table key name = refl

are_stored : (g : Schema → Written → Building (Draft × List (List ℕ) × List (Option Collation))) (schema : Schema) (table : List ℕ) → sources g schema (from_all table) [] ≡ Ok (schema, [])
unfolding everything
are_stored g schema table = refl

-- the names and the text of the query are those of the table
pub record CanAsk (schema : Schema) (t : Table) (at : ℕ) (key name text : List ℕ) (k n : Column) : Type 0 where
  pub sees_key : Sees schema (bound_of t at) (t ∷ []) (asked_of t at key 0 k)
  pub sees_name : Sees schema (bound_of t at) (t ∷ []) (asked_of t at name 1 n)
  pub test : (shown : List Output) → compared (over schema (bound_of t at) shown false true) (Compare Eq (chosen (carried (asked_of t at name 1 n)) nothing)) (col 1 (place_of t 1)) (col 0 0) ≡ test_of t
  pub typed : program schema [] (draft_of t) ≡ Ok (record { lets = []; body = query_of (draft_of t) })
  pub read : (pick (first text)).statement ≡ written.Select (select t.name key name)
  pub parsed : first text ≡ Ok (pick (first text))
  pub timeless : (pick (first text)).formats ≡ []

module _ (schema : Schema) (t : Table) (s : Stands schema t) (key name text : List ℕ) (k n : Column) (can : CanAsk schema t s.place key name text k n) where
  abbrev bs : List Bound
  bs = bound_of t s.place

  abbrev asked : List Asked
  asked = asked_of t s.place key 0 k ∷ []

  binds_all : bounds schema (from_all t.name) (st 1 max_budget nothing) ≡ Ok (bs, st 2 max_budget nothing)
  unfolding bounds
  binds_all = rw (bound_is schema t.name s.place 1 max_budget nothing s.named refl) refl

  joins_all : (shown : List Output) (l : Carried) → joins lower (over schema bs shown false true) bs (from_all t.name) (st 2 (max_budget - 1) l) ≡ Ok (record { steps = Inner t.tree ∷ []; filter = [] }, st 2 (max_budget - 1) l)
  unfolding joins
  joins_all shown l =
      rw (out_from t.name, inner_is (over schema bs shown false true) bs (record { steps = []; filter = [] }) t.name t.name s.place 1 t (st 2 (max_budget - 1) l) s.is) refl

  tests_all : (shown : List Output) (l : Carried) → tests lower (over schema bs shown false true) [] (Some (filter name)) (st 2 (max_budget - 1) l) ≡ Ok (test_of t ∷ [], st 2 (max_budget - 4) nothing)
  unfolding tests
  tests_all shown l =
      rw (given_is schema bs (t ∷ []) shown false true (asked_of t s.place name 1 n) 1 (test_of t) 2 (max_budget - 1) l (s.is, tt) can.sees_name refl refl refl (can.test shown)) refl

  sorts_all : (shown : List Output) → sorts lower (over schema bs shown false true) shown [] (st 2 (max_budget - 4) nothing) ≡ Ok ([], st 2 (max_budget - 4) nothing)
  unfolding sorts
  sorts_all shown = refl

  means : query schema (select t.name key name) ≡ Ok ((draft_of t, k.name ∷ [], (carried (asked_of t s.place key 0 k)).collation ∷ []), [])
  unfolding ungrouped
  means =
      let columns = map output asked in
      let last = last_after nothing asked in
      answer_is schema (select t.name key name) (core t.name key name) (from_all t.name) (Some (filter name)) [] bs (t ∷ []) asked (Inner t.tree ∷ []) [] (test_of t ∷ []) []
      2 (max_budget - 1) (max_budget - 4) (max_budget - 4) last nothing nothing (select_opens t.name key name) (core_opens t.name key name) (λ g. are_stored g schema t.name) binds_all (s.is, tt) (can.sees_key, tt)
      (refl, tt) (joins_all columns last) (tests_all columns last) (sorts_all columns)

  pub asks_is : Shows schema text (query_of (draft_of t)) (k.name ∷ [])
  asks_is = shows_from schema text (pick (first text)) (query_of (draft_of t)) (k.name ∷ []) can.parsed
      (select_planned schema (pick (first text)) (select t.name key name) _ (record { lets = []; body = query_of (draft_of t) }) can.read can.timeless means can.typed)
