-- What the contracts of this crate state about two files, and about the rows of their schema.
use Rattle.std.specs.Prelude.{◌≡◌, ℕ, Bool, List, All, map, Option, MatchOption, ⊤}
use Rattle.sqlite.specs.declared.error.Error.{Error}
use Rattle.sqlite_disk.specs.declared.Disk.{Ghosts}
use Rattle.sqlite_disk.specs.declared.Files.{Files}
use Rattle.sqlite_wal.specs.Files as log_files
use Rattle.sqlite_wal.specs.Reads.{AreClean}
use Rattle.sqlite_wal.specs.Recovery.{Image}
use Rattle.sqlite_pool.specs.Stored.{stored_size, used_size}
use Rattle.sqlite_value.specs.Order.{Row}
use Rattle.sqlite_trees.specs.Tree.{Trees}
use Rattle.sqlite_trees.specs.View.{View}
use Rattle.sqlite_trees.specs.declared.store.Shape.{Shape}
use Rattle.sqlite_schema.specs.declared.schema.Schema.{Schema}
use Rattle.sqlite_store.specs.declared.catalog.Wanted.{Wanted}
use Rattle.sqlite.specs.Files.{HoldsDatabase, IsBlankAs, IsNothing, IsTooLong, faults_of, image_of}
use Rattle.sqlite.specs.Opening.{AreToSeal, FailsFor, HasTree, Knows, Meets, layout_of, shape_of}

-- ---- files

-- both files have returned what was written to them
abbrev pub HaveKept : {D : Type 0} → Ghosts D → Files D → Type 0
HaveKept g files = AreClean g files.log files.db

-- the files hold a database whose pages have this size
abbrev pub HoldsSized : ℕ → Image → Type 0
HoldsSized size image = (db : Trees) × (held : HoldsDatabase image db) × (stored_size held.0 ≡ size)

-- if the files hold a database whose pages have this size, these pages end in sums or not
abbrev pub UsesSized : ℕ → Bool → Image → Type 0
UsesSized size has_sums image =
    (db : Trees) (held : HoldsDatabase image db) → stored_size held.0 ≡ size → held.0 ≡ used_size size has_sums

-- There is no database yet, and one is to be made with sums as asked, unless one of the other kind
-- has almost been made; or there is something.
abbrev pub IsNothingAs : Bool → Image → Option Bool → Type 0
IsNothingAs asked image found =
    MatchOption found (¬ IsNothing image) (λ has_sums. IsBlankAs has_sums image × (IsBlankAs asked image → has_sums ≡ asked))

-- why files are not tested for being blank
abbrev pub FailsToTest : {D : Type 0} → Ghosts D → Files D → Files D → Error → Type 0
FailsToTest g old new e = HaveKept g new → FailsFor (faults_of g old) (faults_of g new) (IsTooLong (image_of g old)) ⊤ e

-- why the pages of files are not read, if they have this size
abbrev pub FailsToRead : {D : Type 0} → Ghosts D → ℕ → Files D → Files D → Error → Type 0
FailsToRead g size old new e =
    HaveKept g new
    → FailsFor (faults_of g old) (faults_of g new) (log_files.IsHuge size (image_of g old)) (HoldsSized size (image_of g old)) e

-- the pages of the log, or none if the pages of the files have no sums
abbrev pub AreToSealIn : {D : Type 0} → Ghosts D → ℕ → Bool → Files D → List ℕ → Type 0
AreToSealIn g size has_sums files numbers = AreToSeal (used_size size has_sums) (image_of g files) numbers

-- ---- rows

-- the claim holds for the layouts that any trees give to the rows, if they have the schema and
-- these shapes
abbrev pub OfLayouts : Schema → List Row → List Shape → (List (Shape × ℕ) → Type 0) → Type 0
OfLayouts schema rows shapes claim =
    (v : View) → Knows v schema → All (HasTree schema) rows → shapes ≡ map (shape_of v) rows → claim (map (layout_of v) rows)

-- the claim holds for any trees whose list is described by these rows and roots
abbrev pub OfListed : List Row → List Bool → (List Wanted → Type 0) → Type 0
OfListed rows roots claim = (schema : Schema) (wanted : List Wanted) → Meets schema wanted rows roots → claim wanted
