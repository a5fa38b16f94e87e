-- What the texts that make the tables mean.
use Rattle.std.proofs.Common.{◌≡◌, List, [], ◌∷◌, ◌++◌, Ok, refl, ℕ}
use Rattle.sqlite.specs.Table.{Table}
use Rattle.sqlite.specs.Schema.{Schema}
use Rattle.sqlite.specs.Change.{created, next_tree}
use Rattle.sqlite.specs.Does.{lacks_sequence}
use Rattle.std.specs.Fmt.{digits}
use Rattle.std.specs.Prelude.{false}
use Rattle.sqlite.specs.Command.TheVariants.{CreateTable}
use Rattle.sqlite.specs.Compile.{table_defined_by}
use Rattle.sqlite.specs.Listing.{understood}
use Rattle.sqlite_tied.specs.Compute.{everything}
use Rattle.sqlite.proofs.Callers.{IsPlain, command_of, statement_of}
use Rattle.br_catalog_tables.specs.Tables.{create_version, create_client, create_fileset, create_media, create_path, create_job, create_job_media, create_file, version, client, fileset, media, path, job, job_media, file}
use Rattle.br_catalog_tables.specs.Tables.{no_schema, one_table, two_tables, three_tables, four_tables, five_tables, six_tables, seven_tables, new_schema}

-- a text that makes a table
abbrev pub Makes : Schema → List ℕ → Table → Schema → Type 0
Makes schema text table after =
    (command_of (understood schema text) ≡ CreateTable) × (statement_of text (understood schema text) ≡ text) × (table_defined_by text ≡ Ok table) × IsPlain (understood schema text)

-- the table comes last, in a tree of its own
pub record Follows (schema : Schema) (table : Table) (after : Schema) : Type 0 where
  pub is : created schema (record table { tree = 0 }) ≡ after
  pub last : after.tables ≡ schema.tables ++ table ∷ []
  pub tree : next_tree schema ≡ table.tree
  pub whole : lacks_sequence after ≡ false

pub makes_version : Makes no_schema create_version (version 0) one_table
unfolding understood everything
makes_version = (refl, refl, refl, (refl, refl))

pub after_version : Follows no_schema (version 0) one_table
unfolding digits
after_version = record { is = refl; last = refl; tree = refl; whole = refl }

pub makes_client : Makes one_table create_client (client 0) two_tables
unfolding understood everything
makes_client = (refl, refl, refl, (refl, refl))

pub after_client : Follows one_table (client 1) two_tables
unfolding digits
after_client = record { is = refl; last = refl; tree = refl; whole = refl }

pub makes_fileset : Makes two_tables create_fileset (fileset 0) three_tables
unfolding understood everything
makes_fileset = (refl, refl, refl, (refl, refl))

pub after_fileset : Follows two_tables (fileset 3) three_tables
unfolding digits
after_fileset = record { is = refl; last = refl; tree = refl; whole = refl }

pub makes_media : Makes three_tables create_media (media 0) four_tables
unfolding understood everything
makes_media = (refl, refl, refl, (refl, refl))

pub after_media : Follows three_tables (media 5) four_tables
unfolding digits
after_media = record { is = refl; last = refl; tree = refl; whole = refl }

pub makes_path : Makes four_tables create_path (path 0) five_tables
unfolding understood everything
makes_path = (refl, refl, refl, (refl, refl))

pub after_path : Follows four_tables (path 7) five_tables
unfolding digits
after_path = record { is = refl; last = refl; tree = refl; whole = refl }

pub makes_job : Makes five_tables create_job (job 0) six_tables
unfolding understood everything
makes_job = (refl, refl, refl, (refl, refl))

pub after_job : Follows five_tables (job 9) six_tables
unfolding digits
after_job = record { is = refl; last = refl; tree = refl; whole = refl }

pub makes_job_media : Makes six_tables create_job_media (job_media 0) seven_tables
unfolding understood everything
makes_job_media = (refl, refl, refl, (refl, refl))

pub after_job_media : Follows six_tables (job_media 11) seven_tables
unfolding digits
after_job_media = record { is = refl; last = refl; tree = refl; whole = refl }

pub makes_file : Makes seven_tables create_file (file 0) new_schema
unfolding understood everything
makes_file = (refl, refl, refl, (refl, refl))

pub after_file : Follows seven_tables (file 13) new_schema
unfolding digits
after_file = record { is = refl; last = refl; tree = refl; whole = refl }
