-- The columns that a query shows, all at once.
use Rattle.std.proofs.Common.{◌≡◌, ◌-◌, ◌++◌, ℕ, Bool, true, false, not, ◌&&◌, if◌then◌else◌, nat_lt, List, [], ◌∷◌, map, Option, None, Some, Ok, Err, slice_get, option_map, append-nil, append_assoc, refl, ◌∙◌}
use Rattle.std.specs.List.{AllByRecursion}
use Rattle.sqlite.specs.Schema.{Schema}
use Rattle.sqlite.specs.Table.{Table}
use Rattle.sqlite.specs.Term.{col}
use Rattle.sqlite_schema.specs.declared.schema.Column.{Column as Column'}
use Rattle.sqlite_schema.specs.Names.{place_of, column_named}
use Rattle.sqlite_ast.specs.declared.Shown.{Shown}
use Rattle.sqlite_resolve.specs.declared.scope.Bound.{Bound}
use Rattle.sqlite_resolve.specs.declared.scope.Output.{Output}
use Rattle.sqlite_resolve.specs.declared.scope.Found.{Found}
use Rattle.sqlite_resolve.specs.declared.scope.Found.TheVariants.{Column}
use Rattle.sqlite_resolve.specs.declared.state.Carried.{Carried}
use Rattle.sqlite_resolve.specs.Lowering.{Checked, and_then}
use Rattle.sqlite_resolve.specs.Scope.{Name, only, only_from, hit, column_in, at_most_one, is_meant, is_hidden, declared}
use Rattle.sqlite_resolve.specs.Expr.{lower}
use Rattle.sqlite_resolve.specs.Body.{outputs, outputs_from}
use Rattle.br_store.proofs.Syntax.{shows_at}
use Rattle.br_store.proofs.Found.{over, st}
use Rattle.br_store.proofs.Parts.{shown_is}

-- the tables that the places of FROM have
abbrev pub AreAt : Schema → List Bound → List Table → Type 0
AreAt schema [] ts = Unit {0}
AreAt schema (b ∷ bs) [] = ⊥
AreAt schema (b ∷ bs) (t ∷ ts) = (slice_get schema.tables b.table ≡ Some t) × AreAt schema bs ts

abbrev pub hit_in : Option Name → Name → Bound → Table → Option Found
hit_in table name b t = if is_meant table b && not (is_hidden table name b) then option_map (Column b.slot b.table) (column_named t name) else None

abbrev pub only_in : Option Name → Name → Option Found → List Bound → List Table → Checked (Option Found)
only_in table name found [] ts = Ok found
only_in table name found (b ∷ bs) [] = Ok found
only_in table name found (b ∷ bs) (t ∷ ts) = and_then (at_most_one found (hit_in table name b t)) (λ f. only_in table name f bs ts)

hit_is : (schema : Schema) (table : Option Name) (name : Name) (b : Bound) (t : Table) → slice_get schema.tables b.table ≡ Some t → hit schema table name false b ≡ hit_in table name b t
unfolding hit column_in
hit_is schema table name b t got = rw got refl

then_same : {A B : Type 0} (r : Checked A) (f g : A → Checked B) → ((a : A) → f a ≡ g a) → and_then r f ≡ and_then r g
then_same (Ok a) f g h = h a
then_same (Err e) f g h = refl

from_is : (schema : Schema) (table : Option Name) (name : Name) (found : Option Found) (bs : List Bound) (ts : List Table) → AreAt schema bs ts
    → only_from (hit schema table name false) found bs ≡ only_in table name found bs ts
from_is schema table name found [] ts h = refl
from_is schema table name found (b ∷ bs) [] h = absurd h
from_is schema table name found (b ∷ bs) (t ∷ ts) h =
    rw (hit_is schema table name b t h.0) (then_same (at_most_one found (hit_in table name b t)) _ _ (λ f. from_is schema table name f bs ts h.1))

pub only_is : (schema : Schema) (table : Option Name) (name : Name) (bs : List Bound) (ts : List Table) → AreAt schema bs ts
    → only schema table name false bs ≡ only_in table name None bs ts
unfolding only
only_is schema table name bs ts h = from_is schema table name None bs ts h

-- a column that a query names, and what it finds
pub record Asked : Type 0 where
  pub table : Option Name
  pub name : Name
  pub text : Name
  pub slot : ℕ
  pub at : ℕ
  pub place : ℕ
  pub home : Table
  pub column : Column'

pub record Sees (schema : Schema) (bs : List Bound) (ts : List Table) (c : Asked) : Type 0 where
  pub only : only_in c.table c.name None bs ts ≡ Ok (Some (Column c.slot c.at c.place))
  pub got : slice_get schema.tables c.at ≡ Some c.home
  pub has : slice_get c.home.columns c.place ≡ Some c.column

-- a table of FROM under its own name
abbrev pub bind : Name → ℕ → ℕ → Bound
bind name place slot = record { name = name; table = place; slot = slot; shared = [] }

-- a column of a table of FROM, with the table's name before it
abbrev pub ask : Bound → Table → Name → Name → ℕ → Column' → Asked
ask b t name text place column = record { table = Some b.name; name = name; text = text; slot = b.slot; at = b.table; place = place; home = t; column = column }

abbrev pub asks : Asked → Shown
asks c = shows_at c.table c.name c.text

abbrev pub carried : Asked → Carried
carried c = declared c.home c.place c.column

abbrev pub output : Asked → Output
output c = record { name = c.column.name; is_alias = false; is_column = true; term = col c.slot (place_of c.home c.place); carried = carried c }

abbrev pub left_after : ℕ → List Asked → ℕ
left_after b [] = b
left_after b (c ∷ cs) = left_after (b - 1) cs

abbrev pub last_after : Carried → List Asked → Carried
last_after l [] = l
last_after l (c ∷ cs) = last_after (carried c) cs

abbrev pub IsEnough : ℕ → List Asked → Type 0
IsEnough b [] = Unit {0}
IsEnough b (c ∷ cs) = (nat_lt 1 b ≡ true) × IsEnough (b - 1) cs

outputs_go : (schema : Schema) (bs : List Bound) (ts : List Table) (before done : List Output) (m a : Bool) (cs : List Asked) (n b : ℕ) (l : Carried)
    → AreAt schema bs ts → AllByRecursion (Sees schema bs ts) cs → IsEnough b cs
    → outputs_from lower (over schema bs before m a) bs done (map asks cs) (st n b l) ≡ Ok (done ++ map output cs, st n (left_after b cs) (last_after l cs))
outputs_go schema bs ts before done m a [] n b l at sees enough = rw (append-nil done) refl
outputs_go schema bs ts before done m a (c ∷ cs) n b l at sees enough =
    rw (
      shown_is schema bs done before m a c.table c.name c.text c.slot c.at c.place c.home c.column n b l (only_is schema c.table c.name bs ts at ∙ sees.0.only) sees.0.got sees.0.has enough.0,
      outputs_go schema bs ts before (done ++ output c ∷ []) m a cs n (b - 1) (carried c) at sees.1 enough.1,
      append_assoc done (output c ∷ []) (map output cs),
    ) refl

pub outputs_are : (schema : Schema) (bs : List Bound) (ts : List Table) (before : List Output) (m a : Bool) (cs : List Asked) (n b : ℕ) (l : Carried)
    → AreAt schema bs ts → AllByRecursion (Sees schema bs ts) cs → IsEnough b cs
    → outputs lower (over schema bs before m a) bs (map asks cs) (st n b l) ≡ Ok (map output cs, st n (left_after b cs) (last_after l cs))
unfolding outputs
outputs_are schema bs ts before m a cs n b l at sees enough = outputs_go schema bs ts before [] m a cs n b l at sees enough
