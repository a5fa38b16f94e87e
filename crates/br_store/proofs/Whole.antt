-- A whole query over any schema, from its parts.
use Rattle.std.proofs.Common.{◌≡◌, ◌++◌, ℕ, true, false, negsuc, List, [], map, Option, None, Ok, refl}
use Rattle.sqlite.specs.declared.types.Value.TheVariants.{Int}
use Rattle.sqlite.specs.Schema.{Schema}
use Rattle.sqlite.specs.Table.{Table}
use Rattle.sqlite.specs.Term.{Term, lit}
use Rattle.sqlite.specs.Command.TheVariants.{Select as Chosen}
use Rattle.sqlite_draft.specs.declared.join.Step.{Step}
use Rattle.sqlite_draft.specs.declared.query.Draft.{Draft}
use Rattle.sqlite_schema.specs.declared.program.Program.{Program}
use Rattle.sqlite_ast.specs.declared.Expr.{Expr}
use Rattle.sqlite_ast.specs.declared.Shown.{Shown}
use Rattle.sqlite_ast.specs.declared.Source.{Source}
use Rattle.sqlite_ast.specs.declared.Sort.{Sort}
use Rattle.sqlite_ast.specs.declared.Core.{Core, out-Core}
use Rattle.sqlite_ast.specs.declared.Select.{Select, out-Select}
use Rattle.sqlite_ast.specs.declared.Statement.TheVariants as written
use Rattle.sqlite_syntax.specs.declared.statement.Parsed.{Parsed}
use Rattle.sqlite_value.specs.declared.keys.Key.{Key}
use Rattle.sqlite_value.specs.declared.keys.Collation.{Collation}
use Rattle.sqlite_resolve.specs.declared.body.Joined.{Joined}
use Rattle.sqlite_resolve.specs.declared.scope.Bound.{Bound}
use Rattle.sqlite_resolve.specs.declared.scope.Output.{Output}
use Rattle.sqlite_resolve.specs.declared.state.Carried.{Carried}
use Rattle.sqlite_resolve.specs.Lowering.{max_budget, nothing}
use Rattle.sqlite_resolve.specs.Scope.{Name}
use Rattle.sqlite_resolve.specs.Terms.{number}
use Rattle.sqlite_resolve.specs.Expr.{lower}
use Rattle.sqlite_resolve.specs.Body.{body, bounds, result, outputs, matching, joins, tests}
use Rattle.sqlite_resolve.specs.Order.{sorts, keys}
use Rattle.sqlite_resolve.specs.Select.{outermost, parts, having, named, assembled, ungrouped, paging, constant_or}
use Rattle.sqlite_resolve.specs.Program.{Building, query, query_to, level, with, whole, alone, single, sources, viewing, program}
use Rattle.sqlite_resolve.specs.Compile.{planned, timed, meaning, returning, command, read}
use Rattle.std.specs.List.{AllByRecursion}
use Rattle.br_store.proofs.Found.{over, st}
use Rattle.br_store.proofs.Columns.{AreAt, Asked, Sees, IsEnough, asks, output, left_after, last_after, outputs_are}

abbrev pub OutCore : Core → List Shown → List Source → Option Expr → Type 0
OutCore core shown from filter = out-Core core ≡ record { distinct = false; shown = shown; from = from; filter = filter; group = []; having = None }

pub matching_is : (schema : Schema) (core : Core) (shown : List Shown) (from : List Source) (filter : Option Expr) (tables : List Bound) (columns : List Output) (steps : List Step) (tests_on all : List Term) (n b c d : ℕ) (k l m : Carried)
    → OutCore core shown from filter
    → joins lower (over schema tables columns false true) tables from (st n b k) ≡ Ok (record { steps = steps; filter = tests_on }, st n c l)
    → tests lower (over schema tables columns false true) tests_on filter (st n c l) ≡ Ok (all, st n d m)
    → matching lower (outermost schema) (record { tables = tables; shown = columns }) core (st n b k) ≡ Ok (record { steps = steps; filter = all }, st n d m)
unfolding matching
matching_is schema core shown from filter tables columns steps tests_on all n b c d k l m is join test = rw (is, join, test) refl

pub body_is : (schema : Schema) (core : Core) (shown : List Shown) (from : List Source) (filter : Option Expr) (tables : List Bound) (columns : List Output) (joined : Joined) (n b c d o p : ℕ) (k l m q : Carried)
    → OutCore core shown from filter
    → bounds schema from (st n b k) ≡ Ok (tables, st o p q)
    → outputs lower (over schema tables [] true true) tables shown (st o p q) ≡ Ok (columns, st o c l)
    → matching lower (outermost schema) (record { tables = tables; shown = columns }) core (st o c l) ≡ Ok (joined, st o d m)
    → body lower (outermost schema) core (st n b k) ≡ Ok (record { level = record { tables = tables; shown = columns }; steps = joined.steps; filter = joined.filter }, st o d m)
unfolding body result
body_is schema core shown from filter tables columns joined n b c d o p k l m q is bind show match = rw (is, bind, show, match) refl

pub named_is : (schema : Schema) (core : Core) (shown : List Shown) (from : List Source) (filter : Option Expr) (order : List Sort) (tables : List Bound) (columns : List Output) (steps : List Step) (kept : List Term) (by : List (Term × Key)) (page : Term × Term) (b c n : ℕ) (l m : Carried)
    → OutCore core shown from filter
    → body lower (outermost schema) core (st 1 max_budget nothing) ≡ Ok (record { level = record { tables = tables; shown = columns }; steps = steps; filter = kept }, st n b l)
    → sorts lower (over schema tables columns false true) columns order (st n b l) ≡ Ok (by, st n c m)
    → named schema core order page ≡ Ok (ungrouped (steps ++ []) kept columns false by page.0 page.1, map (λ (o : Output). o.name) columns, map (λ (o : Output). o.carried.collation) columns)
unfolding named parts keys having tests assembled
named_is schema core shown from filter order tables columns steps kept by page b c n l m is whole sort = rw (whole, is, sort) refl

abbrev pub OutSelect : Select → Core → List Sort → Type 0
OutSelect s core order = out-Select s ≡ record { with = []; first = core; others = []; order = order; limit = None; offset = None }

abbrev pub no_page : Term × Term
no_page = (lit (Int (negsuc 0)), number 0)

abbrev pub Answer : Type 0
Answer = Draft × List Name × List (Option Collation)

single_is : (f : Schema → Select → Building Answer) (schema : Schema) (core : Core) (shown : List Shown) (from : List Source) (filter : Option Expr) (order : List Sort) (answer : Answer)
    → OutCore core shown from filter
    → sources f schema from [] ≡ Ok (schema, [])
    → named schema core order no_page ≡ Ok answer
    → single f schema core order no_page [] ≡ Ok ((answer, schema), [])
unfolding single viewing
single_is f schema core shown from filter order answer is plain found = rw (is, plain, found) refl

page_is : (schema : Schema) (s : Select) (core : Core) (order : List Sort) → OutSelect s core order → paging schema s ≡ Ok no_page
unfolding paging constant_or
page_is schema s core order is = rw is refl

level_is : (f : Schema → Select → Building Answer) (schema : Schema) (s : Select) (core : Core) (shown : List Shown) (from : List Source) (filter : Option Expr) (order : List Sort) (answer : Answer)
    → OutSelect s core order → OutCore core shown from filter
    → sources f schema from [] ≡ Ok (schema, [])
    → named schema core order no_page ≡ Ok answer
    → level f schema s [] ≡ Ok (answer, [])
unfolding level with whole alone
level_is f schema s core shown from filter order answer opened is plain found =
    rw (opened, page_is schema s core order opened, single_is f schema core shown from filter order answer is plain found) refl

pub query_is : (schema : Schema) (s : Select) (core : Core) (shown : List Shown) (from : List Source) (filter : Option Expr) (order : List Sort) (answer : Answer)
    → OutSelect s core order → OutCore core shown from filter
    → ((f : Schema → Select → Building Answer) → sources f schema from [] ≡ Ok (schema, []))
    → named schema core order no_page ≡ Ok answer
    → query schema s ≡ Ok (answer, [])
unfolding query query_to
query_is schema s core shown from filter order answer opened is plain found =
    level_is (query_to 15) schema s core shown from filter order answer opened is (plain (query_to 15)) found

pub select_planned : (schema : Schema) (p : Parsed) (s : Select) (answer : Answer) (plan : Program)
    → p.statement ≡ written.Select s → p.formats ≡ []
    → query schema s ≡ Ok (answer, []) → program schema [] answer.0 ≡ Ok plan
    → planned schema p ≡ Ok ([], (Chosen plan answer.1, None))
unfolding planned timed meaning returning command read
select_planned schema p s answer plan is none ask typed = rw (is, none, ask, typed) refl

-- the answer of a query with no join but inner ones
pub answer_is : (schema : Schema) (s : Select) (core : Core) (from : List Source) (filter : Option Expr) (order : List Sort) (bs : List Bound) (ts : List Table) (asked : List Asked)
    (steps : List Step) (on kept : List Term) (by : List (Term × Key)) (n b c d : ℕ) (k l m : Carried)
    → OutSelect s core order → OutCore core (map asks asked) from filter
    → ((f : Schema → Select → Building Answer) → sources f schema from [] ≡ Ok (schema, []))
    → bounds schema from (st 1 max_budget nothing) ≡ Ok (bs, st n max_budget nothing)
    → AreAt schema bs ts → AllByRecursion (Sees schema bs ts) asked → IsEnough max_budget asked
    → joins lower (over schema bs (map output asked) false true) bs from (st n (left_after max_budget asked) (last_after nothing asked)) ≡ Ok (record { steps = steps; filter = on }, st n b k)
    → tests lower (over schema bs (map output asked) false true) on filter (st n b k) ≡ Ok (kept, st n c l)
    → sorts lower (over schema bs (map output asked) false true) (map output asked) order (st n c l) ≡ Ok (by, st n d m)
    → query schema s ≡ Ok ((ungrouped (steps ++ []) kept (map output asked) false by no_page.0 no_page.1, map (λ (o : Output). o.name) (map output asked), map (λ (o : Output). o.carried.collation) (map output asked)), [])
answer_is schema s core from filter order bs ts asked steps on kept by n b c d k l m opened is plain bind at sees enough join test sort =
    let columns = map output asked in
    let shown = map asks asked in
    let first = left_after max_budget asked in
    let carried = last_after nothing asked in
    let matched = matching_is schema core shown from filter bs columns steps on kept n first b c carried k l is join test in
    let whole = body_is schema core shown from filter bs columns (record { steps = steps; filter = kept }) 1 max_budget first c n max_budget nothing carried l nothing is bind (outputs_are schema bs ts [] true true asked n max_budget nothing at sees enough) matched in
    query_is schema s core shown from filter order _ opened is plain (named_is schema core shown from filter order bs columns steps kept by no_page c d n l m is whole sort)
