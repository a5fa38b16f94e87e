-- How a table that is in a schema is found there.
use Rattle.std.proofs.Common.{◌≡◌, ℕ, List, Bool, true, false, cond, find, Some, None, slice_get, ◌==◌, refl, ap, ◌∙◌}
use Rattle.std.specs.List.{position_from}
use Rattle.std.proofs.lemmas.List.Folds.{find_at}
use Rattle.std.proofs.lemmas.Iterator.Adapters.{position_from-zero}
use Rattle.sqlite.specs.Schema.{Schema}
use Rattle.sqlite.specs.Table.{Table}
use Rattle.sqlite_schema.specs.Names.{same_name}
use Rattle.br_catalog_tables.specs.TreePlaces.{new_layout}
use Rattle.br_catalog_tables.specs.Tables.{new_schema}
use Rattle.br_catalog_tables.specs.KnownSchemas.{HasAll, Stands, no_owns}

place_is : (b : Bool) (n at : ℕ) → cond b (Some n) None ≡ Some at → n ≡ at
place_is true n at h = cc
place_is false n at h = absurd cc

-- the element at the first place that passes is found first
pub find_placed : {X : Type 0} (p : X → Bool) (xs : List X) (at : ℕ) (x : X) → position_from p 0 xs ≡ Some at → slice_get xs at ≡ Some x → find p xs ≡ Some x
find_placed p xs at x first is = find_at p xs ∙ ap (slice_get xs) (place_is _ _ at (position_from-zero p xs ∙ first)) ∙ is

pub by_name : (schema : Schema) (t : Table) → Stands schema t → find (λ (u : Table). same_name u.name t.name) schema.tables ≡ Some t
by_name schema t s = find_placed (λ (u : Table). same_name u.name t.name) schema.tables s.place t s.named s.is

pub by_tree : (schema : Schema) (t : Table) → Stands schema t → find (λ (u : Table). u.tree == t.tree) schema.tables ≡ Some t
by_tree schema t s = find_placed (λ (u : Table). u.tree == t.tree) schema.tables s.place t s.placed s.is

-- the schema of a new catalogue has the tables
pub new_stands : HasAll new_schema new_layout no_owns
unfolding same_name
new_stands = record {
  version = record { place = 0; named = refl; placed = refl; is = refl; stored = refl; numbered = λ e. refl };
  client = record { place = 1; named = refl; placed = refl; is = refl; stored = refl; numbered = λ e. absurd cc };
  fileset = record { place = 2; named = refl; placed = refl; is = refl; stored = refl; numbered = λ e. absurd cc };
  media = record { place = 3; named = refl; placed = refl; is = refl; stored = refl; numbered = λ e. absurd cc };
  path = record { place = 4; named = refl; placed = refl; is = refl; stored = refl; numbered = λ e. absurd cc };
  job = record { place = 5; named = refl; placed = refl; is = refl; stored = refl; numbered = λ e. absurd cc };
  job_media = record { place = 6; named = refl; placed = refl; is = refl; stored = refl; numbered = λ e. absurd cc };
  file = record { place = 7; named = refl; placed = refl; is = refl; stored = refl; numbered = λ e. absurd cc };
}
