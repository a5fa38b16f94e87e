-- The parts of a statement as they are written, and each with one level open.
use Rattle.std.proofs.Common.{◌≡◌, ℕ, false, List, [], Option, Some, None, refl}
use Rattle.sqlite_ast.specs.declared.Origin.TheVariants.{Table}
use Rattle.sqlite_ast.specs.declared.Binary.{Binary}
use Rattle.sqlite_ast.specs.declared.Expr.{Expr, out-Expr}
use Rattle.sqlite_ast.specs.declared.Expr.TheVariants as e
use Rattle.sqlite_ast.specs.declared.Expr.TheOpen.{Expr-F, Shown-F}
use Rattle.sqlite_ast.specs.declared.Shown.{Shown, out-Shown}
use Rattle.sqlite_ast.specs.declared.Shown.TheVariants.{One}
use Rattle.sqlite_ast.specs.declared.Select.{Select, roll-Select}
use Rattle.sqlite_ast.specs.declared.Source.{Source, out-Source, roll-Source}
use Rattle.sqlite_ast.specs.declared.Core.{Core, roll-Core}
use Rattle.sqlite_ast.specs.declared.Sort.{Sort, roll-Sort}
use Rattle.sqlite_tied.specs.Compute.{everything}

pub out_column : (t : Option (List ℕ)) (n : List ℕ) → out-Expr (e.Column t n) ≡ Expr-F.Column t n
unfolding everything
out_column t n = refl

pub out_parameter : (n : ℕ) → out-Expr (e.Parameter n) ≡ Expr-F.Parameter n
unfolding everything
out_parameter n = refl

pub out_binary : (op : Binary) (a b : Expr) → out-Expr (e.Binary op a b) ≡ Expr-F.Binary op a b
unfolding everything
out_binary op a b = refl

pub out_one : (a : Expr) (alias : Option (List ℕ)) (text : List ℕ) → out-Shown (One a alias text) ≡ Shown-F.One a alias text
unfolding everything
out_one a alias text = refl

abbrev pub shows_at : Option (List ℕ) → List ℕ → List ℕ → Shown
shows_at table name text = One (e.Column table name) None text

abbrev pub from_table : List ℕ → Option Expr → Source
from_table name on = roll-Source (record { is_left = false; origin = Table name; alias = None; on = on; using = [] })

pub out_from : (name : List ℕ) → out-Source (from_table name None) ≡ record { is_left = false; origin = Table name; alias = None; on = None; using = [] }
unfolding everything
out_from name = refl

pub out_joined : (name : List ℕ) (on : Expr) → out-Source (from_table name (Some on)) ≡ record { is_left = false; origin = Table name; alias = None; on = Some on; using = [] }
unfolding everything
out_joined name on = refl

abbrev pub core_of : List Shown → List Source → Option Expr → Core
core_of shown from filter = roll-Core (record { distinct = false; shown = shown; from = from; filter = filter; group = []; having = None })

abbrev pub select_of : Core → List Sort → Select
select_of core order = roll-Select (record { with = []; first = core; others = []; order = order; limit = None; offset = None })

abbrev pub order_by : Expr → Sort
order_by key = roll-Sort (record { key = key; descending = false; nulls_first = None })
