-- How a column that a query names is found in any schema.
use Rattle.std.proofs.Common.{◌≡◌, ◌-◌, ℕ, Bool, true, false, nat_lt, List, [], ◌∷◌, Option, None, Some, Ok, slice_get, refl}
use Rattle.sqlite.specs.Schema.{Schema}
use Rattle.sqlite.specs.Table.{Table}
use Rattle.sqlite.specs.Term.{Term, col}
use Rattle.sqlite_schema.specs.declared.schema.Column.{Column as Column'}
use Rattle.sqlite_schema.specs.Names.{place_of}
use Rattle.sqlite_ast.specs.declared.Expr.{Expr}
use Rattle.sqlite_ast.specs.declared.Expr.TheVariants as e
use Rattle.sqlite_resolve.specs.declared.scope.Bound.{Bound}
use Rattle.sqlite_resolve.specs.declared.scope.Output.{Output}
use Rattle.sqlite_resolve.specs.declared.scope.Found.TheVariants.{Column}
use Rattle.sqlite_resolve.specs.declared.state.Carried.{Carried}
use Rattle.sqlite_resolve.specs.declared.state.State.{State}
use Rattle.sqlite_resolve.specs.Lowering.{Lowering, spend, begin, finish}
use Rattle.sqlite_resolve.specs.Scope.{Name, Context, column, find, in_level, term_of, column_at, only, declared}
use Rattle.sqlite_resolve.specs.Expr.{lower, lower_to, node, opened, passes}
use Rattle.br_store.proofs.Syntax.{out_column}

abbrev pub over : Schema → List Bound → List Output → Bool → Bool → Context
over schema bs shown m a = record { schema = schema; levels = record { tables = bs; shown = shown } ∷ []; may_aggregate = m; may_alias = a }

abbrev pub st : ℕ → ℕ → Carried → State
st n b l = record { next = n; steps = []; aggregates = []; budget = b; written = None; last = l }

pub found : (schema : Schema) (bs : List Bound) (shown : List Output) (m a : Bool) (table : Option Name) (name : Name) (slot at place : ℕ)
    → only schema table name false bs ≡ Ok (Some (Column slot at place))
    → find (over schema bs shown m a) table name ≡ Ok (Column slot at place)
unfolding find in_level
found schema bs shown m a table name slot at place h = rw h refl

pub column_is : (schema : Schema) (bs : List Bound) (shown : List Output) (m a : Bool) (table : Option Name) (name : Name) (slot at place : ℕ) (t : Table) (c : Column') (s : State)
    → only schema table name false bs ≡ Ok (Some (Column slot at place))
    → slice_get schema.tables at ≡ Some t → slice_get t.columns place ≡ Some c
    → column (over schema bs shown m a) table name s ≡ Ok (col slot (place_of t place), record s { last = declared t place c })
unfolding column term_of column_at
column_is schema bs shown m a table name slot at place t c s h got has = rw (found schema bs shown m a table name slot at place h, got, has) refl

pub opened_is : (f : Context → Expr → Lowering Term) (schema : Schema) (bs : List Bound) (shown : List Output) (m a : Bool) (table : Option Name) (name : Name) (slot at place : ℕ) (t : Table) (c : Column') (s : State)
    → only schema table name false bs ≡ Ok (Some (Column slot at place))
    → slice_get schema.tables at ≡ Some t → slice_get t.columns place ≡ Some c
    → opened f (over schema bs shown m a) (e.Column table name) s ≡ Ok (col slot (place_of t place), record s { last = declared t place c })
unfolding opened
opened_is f schema bs shown m a table name slot at place t c s h got has = rw (out_column table name) (column_is schema bs shown m a table name slot at place t c s h got has)

pub node_is : (f : Context → Expr → Lowering Term) (schema : Schema) (bs : List Bound) (shown : List Output) (m a : Bool) (table : Option Name) (name : Name) (slot at place : ℕ) (t : Table) (c : Column') (n b : ℕ) (l : Carried)
    → only schema table name false bs ≡ Ok (Some (Column slot at place))
    → slice_get schema.tables at ≡ Some t → slice_get t.columns place ≡ Some c → nat_lt 1 b ≡ true
    → node f (over schema bs shown m a) (e.Column table name) (st n b l) ≡ Ok (col slot (place_of t place), st n (b - 1) (declared t place c))
unfolding node spend begin finish passes
node_is f schema bs shown m a table name slot at place t c n b l h got has enough =
    rw (enough, opened_is f schema bs shown m a table name slot at place t c _ h got has, out_column table name) refl

pub lowered : (schema : Schema) (bs : List Bound) (shown : List Output) (m a : Bool) (table : Option Name) (name : Name) (slot at place : ℕ) (t : Table) (c : Column') (n b : ℕ) (l : Carried)
    → only schema table name false bs ≡ Ok (Some (Column slot at place))
    → slice_get schema.tables at ≡ Some t → slice_get t.columns place ≡ Some c → nat_lt 1 b ≡ true
    → lower (over schema bs shown m a) (e.Column table name) (st n b l) ≡ Ok (col slot (place_of t place), st n (b - 1) (declared t place c))
unfolding lower_to
lowered schema bs shown m a table name slot at place t c n b l h got has enough =
    node_is (lower_to 699) schema bs shown m a table name slot at place t c n b l h got has enough
