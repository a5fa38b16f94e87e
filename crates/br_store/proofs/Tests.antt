-- The tests of a query.
use Rattle.std.proofs.Common.{◌≡◌, ◌-◌, ℕ, Bool, true, nat_lt, List, Ok, ◌∙◌}
use Rattle.sqlite.specs.Schema.{Schema}
use Rattle.sqlite.specs.Table.{Table}
use Rattle.sqlite.specs.Term.{Term, col}
use Rattle.sqlite_schema.specs.Names.{place_of}
use Rattle.sqlite_ast.specs.declared.Binary.TheVariants as binary
use Rattle.sqlite_ast.specs.declared.Expr.{Expr}
use Rattle.sqlite_ast.specs.declared.Expr.TheVariants as e
use Rattle.sqlite_sql.specs.declared.ops.BinaryOp.TheVariants.{Compare}
use Rattle.sqlite_sql.specs.declared.ops.CompareOp.TheVariants.{Eq}
use Rattle.sqlite_resolve.specs.declared.scope.Bound.{Bound}
use Rattle.sqlite_resolve.specs.declared.scope.Output.{Output}
use Rattle.sqlite_resolve.specs.declared.state.Carried.{Carried}
use Rattle.sqlite_resolve.specs.Lowering.{chosen, nothing}
use Rattle.sqlite_resolve.specs.Compare.{compared}
use Rattle.sqlite_resolve.specs.Expr.{lower, lower_to}
use Rattle.br_store.proofs.Found.{over, st, node_is}
use Rattle.br_store.proofs.Parts.{equals_is, parameter_is}
use Rattle.br_store.proofs.Columns.{AreAt, Asked, Sees, only_is, carried}

abbrev pub column_of : Asked → Expr
column_of c = e.Column c.table c.name

abbrev pub term_of : Asked → Term
term_of c = col c.slot (place_of c.home c.place)

pub on_is : (schema : Schema) (bs : List Bound) (ts : List Table) (shown : List Output) (m a : Bool) (x y : Asked) (out : Term) (n b : ℕ) (l : Carried)
    → AreAt schema bs ts → Sees schema bs ts x → Sees schema bs ts y
    → nat_lt 1 b ≡ true → nat_lt 1 (b - 1) ≡ true → nat_lt 1 (b - 1 - 1) ≡ true
    → compared (over schema bs shown m a) (Compare Eq (chosen (carried x) (carried y))) (term_of x) (term_of y) ≡ out
    → lower (over schema bs shown m a) (e.Binary binary.Eq (column_of x) (column_of y)) (st n b l) ≡ Ok (out, st n (b - 1 - 1 - 1) nothing)
unfolding lower_to
on_is schema bs ts shown m a x y out n b l at left right one two three same =
    equals_is (lower_to 699) (over schema bs shown m a) (column_of x) (column_of y) (term_of x) (term_of y) out (carried x) (carried y) n b l
    (λ k. node_is (lower_to 698) schema bs shown m a x.table x.name x.slot x.at x.place x.home x.column n (b - 1) k (only_is schema x.table x.name bs ts at ∙ left.only) left.got left.has two)
    (λ k. node_is (lower_to 698) schema bs shown m a y.table y.name y.slot y.at y.place y.home y.column n (b - 1 - 1) k (only_is schema y.table y.name bs ts at ∙ right.only) right.got right.has three)
    same one

pub given_is : (schema : Schema) (bs : List Bound) (ts : List Table) (shown : List Output) (m a : Bool) (x : Asked) (k : ℕ) (out : Term) (n b : ℕ) (l : Carried)
    → AreAt schema bs ts → Sees schema bs ts x
    → nat_lt 1 b ≡ true → nat_lt 1 (b - 1) ≡ true → nat_lt 1 (b - 1 - 1) ≡ true
    → compared (over schema bs shown m a) (Compare Eq (chosen (carried x) nothing)) (term_of x) (col 0 (k - 1)) ≡ out
    → lower (over schema bs shown m a) (e.Binary binary.Eq (column_of x) (e.Parameter k)) (st n b l) ≡ Ok (out, st n (b - 1 - 1 - 1) nothing)
unfolding lower_to
given_is schema bs ts shown m a x k out n b l at left one two three same =
    equals_is (lower_to 699) (over schema bs shown m a) (column_of x) (e.Parameter k) (term_of x) (col 0 (k - 1)) out (carried x) nothing n b l
    (λ l. node_is (lower_to 698) schema bs shown m a x.table x.name x.slot x.at x.place x.home x.column n (b - 1) l (only_is schema x.table x.name bs ts at ∙ left.only) left.got left.has two)
    (λ l. parameter_is (lower_to 698) (over schema bs shown m a) k n (b - 1 - 1) l three)
    same one
