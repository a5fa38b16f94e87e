-- The effect of a call on a store.
use Rattle.std.specs.Prelude.{◌≡◌, ℕ, Bool, true, false, List, [], ◌∷◌, IsTrue}
use Rattle.sqlite.specs.Order.{Row}
use Rattle.sqlite_trees.specs.View.{View, IsClean, IsQuiet}
use Rattle.sqlite_trees.specs.declared.store.Store.{Ghosts}
use Rattle.sqlite_trees.specs.declared.store.Shape.TheVariants as Shape
use Rattle.sqlite_exec.specs.Calls.{OnlyReads}
use Rattle.sqlite_exec.specs.Loops.{left_of}
use Rattle.br_catalog_tables.specs.declared.old_schema.OldLayout.{OldLayout}

-- the claim holds of the store before and after a call if its disk has returned what was written to it
abbrev pub OnCleanStore : {S : Type 0} → Ghosts S → S → S → (View → View → Type 0) → Type 0
OnCleanStore g old new claim = IsClean (g.view new) → claim (g.view old) (g.view new)

-- the store was open if it is, and has the same last commit
pub record KeepsLast (old new : View) : Type 0 where
  pub was_open : IsTrue new.is_open → IsTrue old.is_open
  pub committed : IsTrue new.is_open → new.committed ≡ old.committed
  pub numbered : new.is_numbered ≡ old.is_numbered

-- no fault is forgotten, a crash leaves only what it could leave before, and the last commit is the same
pub record CommitsNothing {S : Type 0} (g : Ghosts S) (old new : S) : Type 0 where
  pub quiet : IsQuiet g.view g.faults g.recovers g.is_shielded old new
  pub last : IsClean (g.view new) → KeepsLast (g.view old) (g.view new)

-- a sound store was read
pub record Reads (old new : View) : Type 0 where
  pub same : OnlyReads old new
  pub sound : old.is_broken ≡ false

-- the cursor gave this row, or had none left
abbrev pub Gives : Row → List Row → List Row → Bool → Type 0
Gives row old new true = old ≡ row ∷ new
Gives row old new false = old ≡ []

-- the cursor still has all rows of the tree to give
pub record Starts (old new : View) (tree : ℕ) : Type 0 where
  pub reads : Reads old new
  pub left : left_of new 0 ≡ old.trees tree

-- the cursor has gone on
pub record GoesOn (old new : View) (row : Row) (found : Bool) : Type 0 where
  pub reads : Reads old new
  pub gives : Gives row (left_of old 0) (left_of new 0) found

-- the trees of the tables of version 1 are tables
pub record AreTables (l : OldLayout) (v : View) : Type 0 where
  pub version : v.shape l.version ≡ Shape.Table
  pub client : v.shape l.client ≡ Shape.Table
  pub fileset : v.shape l.fileset ≡ Shape.Table
  pub media : v.shape l.media ≡ Shape.Table
  pub path : v.shape l.path ≡ Shape.Table
  pub name : v.shape l.filename ≡ Shape.Table
  pub job : v.shape l.job ≡ Shape.Table
  pub span : v.shape l.job_media ≡ Shape.Table
  pub file : v.shape l.file ≡ Shape.Table
