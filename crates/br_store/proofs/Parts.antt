-- The parts of a query over any schema.
use Rattle.std.proofs.Common.{◌≡◌, ◌+◌, ◌-◌, ◌++◌, ℕ, Bool, true, false, nat_lt, List, [], ◌∷◌, Option, None, Some, Ok, slice_get, refl}
use Rattle.std.specs.List.{position_from}
use Rattle.sqlite.specs.Schema.{Schema}
use Rattle.sqlite.specs.Table.{Table}
use Rattle.sqlite.specs.Term.{Term, col}
use Rattle.sqlite_draft.specs.declared.join.Step.TheVariants.{Inner}
use Rattle.sqlite_schema.specs.declared.schema.Column.{Column as Column'}
use Rattle.sqlite_schema.specs.Names.{same_name, place_of}
use Rattle.sqlite_ast.specs.declared.Binary.TheVariants as binary
use Rattle.sqlite_ast.specs.declared.Expr.{Expr}
use Rattle.sqlite_ast.specs.declared.Expr.TheVariants as e
use Rattle.sqlite_sql.specs.declared.ops.BinaryOp.TheVariants.{Compare}
use Rattle.sqlite_sql.specs.declared.ops.CompareOp.TheVariants.{Eq}
use Rattle.sqlite_value.specs.declared.keys.Key.{Key}
use Rattle.sqlite_resolve.specs.declared.body.Joined.{Joined}
use Rattle.sqlite_resolve.specs.declared.scope.Bound.{Bound}
use Rattle.sqlite_resolve.specs.declared.scope.Output.{Output}
use Rattle.sqlite_resolve.specs.declared.scope.Found.TheVariants.{Column, Rowid}
use Rattle.sqlite_resolve.specs.declared.state.Carried.{Carried}
use Rattle.sqlite_resolve.specs.declared.state.State.{State}
use Rattle.sqlite_resolve.specs.Lowering.{Lowering, spend, begin, finish, take_slot, chosen, alone, nothing}
use Rattle.sqlite_resolve.specs.Scope.{Name, Context, column, find, in_level, is_rowid, only, declared, term_of}
use Rattle.sqlite_resolve.specs.Compare.{compared}
use Rattle.sqlite_resolve.specs.Expr.{lower, lower_to, node, opened, passes, operation, wanted_truth, both, tests_truth, tests_alias, combine}
use Rattle.sqlite_resolve.specs.Body.{bound, table_in, shown, heading, is_column, declared as declared_name, shared, join, inner_join, tests}
use Rattle.sqlite_resolve.specs.Order.{sort, key, peeled, alias_in, is_numeral, collation_of, written_on, placed}
use Rattle.sqlite_ast.specs.declared.Expr.TheOpen.{Expr-F}
use Rattle.sqlite_resolve.specs.Order.{alias_at}
use Rattle.sqlite_resolve.specs.Terms.{conjuncts}
use Rattle.sqlite_sql.specs.Term.{reads_below}
use Rattle.br_store.proofs.Syntax.{shows_at, out_parameter, from_table, order_by, out_column, out_binary, out_one, out_from, out_joined}
use Rattle.br_store.proofs.Found.{over, st, found, lowered}

pub bound_is : (schema : Schema) (name : List ℕ) (at n b : ℕ) (l : Carried)
    → position_from (λ (u : Table). same_name u.name name) 0 schema.tables ≡ Some at → nat_lt n 250 ≡ true
    → bound schema (from_table name None) (st n b l) ≡ Ok (record { name = name; table = at; slot = n; shared = [] }, st (n + 1) b l)
unfolding bound take_slot table_in
bound_is schema name at n b l named few = rw (out_from name, few, named) refl

pub joined_is : (schema : Schema) (name : List ℕ) (on : Expr) (at n b : ℕ) (l : Carried)
    → position_from (λ (u : Table). same_name u.name name) 0 schema.tables ≡ Some at → nat_lt n 250 ≡ true
    → bound schema (from_table name (Some on)) (st n b l) ≡ Ok (record { name = name; table = at; slot = n; shared = [] }, st (n + 1) b l)
unfolding bound take_slot table_in
joined_is schema name on at n b l named few = rw (out_joined name on, few, named) refl

pub shown_is : (schema : Schema) (bs : List Bound) (done before : List Output) (m a : Bool) (table : Option Name) (name text : Name) (slot at place : ℕ) (t : Table) (c : Column') (n b : ℕ) (l : Carried)
    → only schema table name false bs ≡ Ok (Some (Column slot at place))
    → slice_get schema.tables at ≡ Some t → slice_get t.columns place ≡ Some c → nat_lt 1 b ≡ true
    → shown lower (over schema bs before m a) bs done (shows_at table name text) (st n b l)
    ≡ Ok (done ++ record { name = c.name; is_alias = false; is_column = true; term = col slot (place_of t place); carried = declared t place c } ∷ [], st n (b - 1) (declared t place c))
unfolding shown heading is_column declared_name
shown_is schema bs done before m a table name text slot at place t c n b l h got has enough =
    rw (
      out_one (e.Column table name) None text,
      lowered schema bs before m a table name slot at place t c n b l h got has enough,
      out_column table name,
      found schema bs before m a table name slot at place h,
      got,
      has,
    ) refl

-- what an expression comes to, and what is left of the budget
abbrev pub LowersTo : (Context → Expr → Lowering Term) → Context → Expr → ℕ → ℕ → Term → Carried → Type 0
LowersTo f cx x n b t c = (l : Carried) → f cx x (st n b l) ≡ Ok (t, st n (b - 1) c)

pub equals_is : (f : Context → Expr → Lowering Term) (cx : Context) (x y : Expr) (s t out : Term) (c d : Carried) (n b : ℕ) (l : Carried)
    → LowersTo f cx x n (b - 1) s c → LowersTo f cx y n (b - 1 - 1) t d
    → compared cx (Compare Eq (chosen c d)) s t ≡ out → nat_lt 1 b ≡ true
    → node f cx (e.Binary binary.Eq x y) (st n b l) ≡ Ok (out, st n (b - 1 - 1 - 1) nothing)
unfolding node opened spend begin finish passes operation wanted_truth both tests_truth tests_alias combine
equals_is f cx x y s t out c d n b l left right same enough =
    rw (enough, out_binary binary.Eq x y, left nothing, right c, same) refl

pub parameter_is : (f : Context → Expr → Lowering Term) (cx : Context) (k n b : ℕ) (l : Carried)
    → nat_lt 1 b ≡ true
    → node f cx (e.Parameter k) (st n b l) ≡ Ok (col 0 (k - 1), st n (b - 1) nothing)
unfolding node opened spend begin finish passes
parameter_is f cx k n b l enough = rw (enough, out_parameter k) refl

peeled_is : (table : Option Name) (name : Name) → peeled (e.Column table name) ≡ e.Column table name
unfolding peeled
peeled_is table name = rw (out_column table name) refl

alias_is : (before : List Output) (table : Option Name) (name : Name) → alias_in before (e.Column table name) ≡ alias_at before (Expr-F.Column table name)
unfolding alias_in
alias_is before table name = rw (out_column table name) refl

numeral_is : (table : Option Name) (name : Name) → is_numeral (e.Column table name) ≡ false
unfolding is_numeral
numeral_is table name = rw (out_column table name) refl

written_is : (table : Option Name) (name : Name) → written_on (e.Column table name) ≡ None
unfolding written_on
written_is table name = rw (out_column table name) refl

pub sorted_is : (schema : Schema) (bs : List Bound) (before : List Output) (m : Bool) (done : List (Term × Key)) (table : Option Name) (name : Name) (slot at place : ℕ) (t : Table) (c : Column') (n b : ℕ) (l : Carried)
    → only schema table name false bs ≡ Ok (Some (Column slot at place))
    → slice_get schema.tables at ≡ Some t → slice_get t.columns place ≡ Some c → nat_lt 1 b ≡ true
    → alias_at before (Expr-F.Column table name) ≡ None → reads_below 1 (col slot (place_of t place)) ≡ false
    → sort lower (over schema bs before m true) before done (order_by (e.Column table name)) (st n b l)
    ≡ Ok (done ++ (col slot (place_of t place), record { collation = alone (declared t place c); descending = false }) ∷ [], st n (b - 1) (declared t place c))
unfolding sort key collation_of placed
sorted_is schema bs before m done table name slot at place t c n b l h got has enough fresh later =
    rw (peeled_is table name, alias_is before table name, fresh, lowered schema bs before m true table name slot at place t c n b l h got has enough, numeral_is table name, later, written_is table name) refl

pub inner_is : (cx : Context) (bs : List Bound) (done : Joined) (name table : Name) (at slot : ℕ) (t : Table) (s : State)
    → slice_get cx.schema.tables at ≡ Some t
    → join lower cx bs done (record { name = name; table = at; slot = slot; shared = [] }) (from_table table None) s
    ≡ Ok (record { steps = done.steps ++ Inner t.tree ∷ []; filter = done.filter ++ [] }, s)
unfolding join shared inner_join tests
inner_is cx bs done name table at slot t s got = rw (got, out_from table) refl

pub inner_on_is : (cx : Context) (bs : List Bound) (done : Joined) (name table : Name) (at slot : ℕ) (t : Table) (on : Expr) (test : Term) (s s' : State)
    → slice_get cx.schema.tables at ≡ Some t → lower cx on s ≡ Ok (test, s')
    → join lower cx bs done (record { name = name; table = at; slot = slot; shared = [] }) (from_table table (Some on)) s
    ≡ Ok (record { steps = done.steps ++ Inner t.tree ∷ []; filter = (done.filter ++ []) ++ conjuncts test }, s')
unfolding join shared inner_join tests
inner_on_is cx bs done name table at slot t on test s s' got is = rw (got, out_joined table on, is) refl

-- a name of a row's number, if no column has it
found_rowid : (schema : Schema) (bs : List Bound) (before : List Output) (m a : Bool) (name : Name) (slot at : ℕ)
    → only schema None name false bs ≡ Ok None → is_rowid name ≡ true → only schema None name true bs ≡ Ok (Some (Rowid slot at))
    → find (over schema bs before m a) None name ≡ Ok (Rowid slot at)
unfolding find in_level
found_rowid schema bs before m a name slot at none is here = rw (none, is, here) refl

rowid_column : (schema : Schema) (bs : List Bound) (before : List Output) (m a : Bool) (name : Name) (slot at : ℕ) (s : State)
    → only schema None name false bs ≡ Ok None → is_rowid name ≡ true → only schema None name true bs ≡ Ok (Some (Rowid slot at))
    → column (over schema bs before m a) None name s ≡ Ok (col slot 0, record s { last = nothing })
unfolding column term_of
rowid_column schema bs before m a name slot at s none is here = rw (found_rowid schema bs before m a name slot at none is here) refl

rowid_opened : (f : Context → Expr → Lowering Term) (schema : Schema) (bs : List Bound) (before : List Output) (m a : Bool) (name : Name) (slot at : ℕ) (s : State)
    → only schema None name false bs ≡ Ok None → is_rowid name ≡ true → only schema None name true bs ≡ Ok (Some (Rowid slot at))
    → opened f (over schema bs before m a) (e.Column None name) s ≡ Ok (col slot 0, record s { last = nothing })
unfolding opened
rowid_opened f schema bs before m a name slot at s none is here = rw (out_column None name) (rowid_column schema bs before m a name slot at s none is here)

rowid_node : (f : Context → Expr → Lowering Term) (schema : Schema) (bs : List Bound) (before : List Output) (m a : Bool) (name : Name) (slot at n b : ℕ) (l : Carried)
    → only schema None name false bs ≡ Ok None → is_rowid name ≡ true → only schema None name true bs ≡ Ok (Some (Rowid slot at)) → nat_lt 1 b ≡ true
    → node f (over schema bs before m a) (e.Column None name) (st n b l) ≡ Ok (col slot 0, st n (b - 1) nothing)
unfolding node spend begin finish passes
rowid_node f schema bs before m a name slot at n b l none is here enough =
    rw (enough, rowid_opened f schema bs before m a name slot at _ none is here, out_column None name) refl

rowid_lowered : (schema : Schema) (bs : List Bound) (before : List Output) (m a : Bool) (name : Name) (slot at n b : ℕ) (l : Carried)
    → only schema None name false bs ≡ Ok None → is_rowid name ≡ true → only schema None name true bs ≡ Ok (Some (Rowid slot at)) → nat_lt 1 b ≡ true
    → lower (over schema bs before m a) (e.Column None name) (st n b l) ≡ Ok (col slot 0, st n (b - 1) nothing)
unfolding lower_to
rowid_lowered schema bs before m a name slot at n b l none is here enough = rowid_node (lower_to 699) schema bs before m a name slot at n b l none is here enough

pub rowid_sorted : (schema : Schema) (bs : List Bound) (before : List Output) (m : Bool) (done : List (Term × Key)) (name : Name) (slot at n b : ℕ) (l : Carried)
    → only schema None name false bs ≡ Ok None → is_rowid name ≡ true → only schema None name true bs ≡ Ok (Some (Rowid slot at)) → nat_lt 1 b ≡ true
    → alias_at before (Expr-F.Column None name) ≡ None → reads_below 1 (col slot 0) ≡ false
    → sort lower (over schema bs before m true) before done (order_by (e.Column None name)) (st n b l)
    ≡ Ok (done ++ (col slot 0, record { collation = alone nothing; descending = false }) ∷ [], st n (b - 1) nothing)
unfolding sort key collation_of placed
rowid_sorted schema bs before m done name slot at n b l none is here enough fresh later =
    rw (peeled_is None name, alias_is before None name, fresh, rowid_lowered schema bs before m true name slot at n b l none is here enough, numeral_is None name, later, written_is None name) refl
