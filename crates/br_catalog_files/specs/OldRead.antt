-- The data that is read from a catalogue of version 1.
use Rattle.std.specs.Prelude.{◌≡◌, pos, List, [], ◌∷◌, length, map, Ok}
use Rattle.sqlite.specs.declared.types.Value.TheVariants.{Int}
use Rattle.sqlite.specs.Order.{Row}
use Rattle.sqlite.specs.Schema.{Schema}
use Rattle.sqlite.specs.Tree.{Trees}
use Rattle.sqlite_catalog.specs.Listing.{Lists}
use Rattle.sqlite_trees.specs.Objects.{catalog_tree}
use Rattle.sqlite.specs.View.{IsShaped}
use Rattle.sqlite_trees.specs.declared.store.Shape.TheVariants.{Table as Shaped}
use Rattle.br_model.specs.Job.{JobRows}
use Rattle.br_catalog_rows.specs.Load.{read_loaded}
use Rattle.br_catalog_files.specs.OldFiles.{AreFiles, moved_row, shown_row}
use Rattle.br_catalog_files.specs.OldNames.{AreNames}
use Rattle.br_catalog_tables.specs.declared.old_schema.OldLayout.{OldLayout}
use Rattle.br_catalog_tables.specs.OldSchemas.{IsOldSchema}
use Rattle.br_catalog_files.specs.Sound.{AreMovedRows}
use Rattle.br_store.specs.Held.{job_shown, span_shown}
use Rattle.br_catalog_files.specs.declared.migrating.Old.{Old}

-- the trees list this schema, which is one of version 1 with its tables in these trees
pub record IsOldIn (schema : Schema) (l : OldLayout) (trees : Trees) : Type 0 where
  pub listed : Lists (trees catalog_tree) schema
  pub is : IsOldSchema schema l

-- the rows of each table have numbers that ascend
pub record AreSorted (l : OldLayout) (trees : Trees) : Type 0 where
  pub versions : IsShaped Shaped (trees l.version)
  pub clients : IsShaped Shaped (trees l.client)
  pub filesets : IsShaped Shaped (trees l.fileset)
  pub media : IsShaped Shaped (trees l.media)
  pub paths : IsShaped Shaped (trees l.path)
  pub names : IsShaped Shaped (trees l.filename)
  pub jobs : IsShaped Shaped (trees l.job)
  pub spans : IsShaped Shaped (trees l.job_media)
  pub files : IsShaped Shaped (trees l.file)

-- the rows of jobs, spans and files, with names in place of numbers
abbrev pub jobs_in : OldLayout → Trees → List Row
jobs_in l trees = map (job_shown (trees l.client) (trees l.fileset)) (trees l.job)

abbrev pub spans_in : OldLayout → Trees → List Row
spans_in l trees = map (span_shown (trees l.media)) (trees l.job_media)

abbrev pub files_in : OldLayout → Trees → List Row
files_in l trees = map (shown_row (trees l.path) (trees l.filename)) (trees l.file)

-- the rows are those of a history of these jobs
abbrev pub FormJobs : OldLayout → Trees → List JobRows → Type 0
FormJobs l trees all = read_loaded (jobs_in l trees) (spans_in l trees) (files_in l trees) ≡ Ok all

-- the one version, the names, the files and the number of jobs are these
pub record IsReadOld (l : OldLayout) (old : Old) (trees : Trees) : Type 0 where
  pub version_is : trees l.version ≡ (Int old.version ∷ Int (pos 1) ∷ []) ∷ []
  pub sorted : AreSorted l trees
  pub names_are : AreNames old.names (trees l.filename)
  pub files_are : AreFiles old.files (trees l.file)
  pub moved : AreMovedRows (trees l.file) (map (moved_row (trees l.filename)) (trees l.file))
  pub all : List JobRows
  pub loaded : FormJobs l trees all
  pub many : old.jobs ≡ length all
