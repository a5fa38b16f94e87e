-- What the texts that insert rows mean, in any schema with the catalogue's tables.
use Rattle.std.proofs.Common.{arith, ◌≡◌, ◌+◌, ◌++◌, ℕ, pos, List, [], ◌∷◌, length, codes, Some, refl, subst}
use Rattle.sqlite.specs.declared.types.Value.TheVariants.{Null, Int, Text}
use Rattle.sqlite.specs.Schema.{Schema}
use Rattle.sqlite.specs.Term.{Term, lit, col}
use Rattle.sqlite_resolve.specs.Compile.{first}
use Rattle.sqlite_resolve.specs.Write.{cells_from}
use Rattle.sqlite_tied.specs.Compute.{everything}
use Rattle.br_store.specs.declared.name_numbers.Dictionary.{Dictionary}
use Rattle.br_store.specs.declared.name_numbers.Dictionary.TheVariants.{Client, FileSet, Media, Path}
use Rattle.br_catalog_tables.specs.TreePlaces.{Layout}
use Rattle.br_catalog_tables.specs.Tables.{version, client, fileset, media, path, job, job_media, file, version_columns, client_columns, fileset_columns, media_columns, path_columns, job_columns, job_media_columns, file_columns}
use Rattle.br_catalog_tables.specs.KnownSchemas.{HasAll, Owns, with_own}
use Rattle.br_store.specs.Names.{insert_text}
use Rattle.br_store.proofs.Compiled.{pick}
use Rattle.br_store.proofs.Inserted.{MayInsert, cells_length, cells_split, may_insert}

-- a text inserts a row of these terms and some more, one for each column of somebody's own
pub record InsertsMore (schema : Schema) (text : List ℕ) (place : ℕ) (front : List Term → List Term) (width : ℕ) : Type 0 where
  pub more : List Term
  pub inserts : MayInsert schema text place (front more) (width + 1)
  pub wide : length (front more) ≡ width + 1

abbrev pub insert_version : List ℕ
insert_version = codes "INSERT INTO Version (VersionId) VALUES (2)"

abbrev pub insert_job : List ℕ
insert_job = codes "INSERT INTO Job (JobId, Type, Level, ClientId, JobStatus, StartTime, FileSetId, VolSessionId, VolSessionTime) VALUES (?1, ?2, ?3, ?4, ?5, ?6, ?7, ?8, ?9)"

abbrev pub insert_span : List ℕ
insert_span = codes "INSERT INTO JobMedia (JobId, MediaId, FirstIndex, LastIndex, StartFile, EndFile, StartBlock, EndBlock, VolIndex) VALUES (?1, ?2, ?3, ?4, ?5, ?6, ?7, ?8, ?9)"

abbrev pub insert_file : List ℕ
insert_file = codes "INSERT INTO File (FileIndex, JobId, PathId, Filename, LStat, MD5) VALUES (?1, ?2, ?3, ?4, ?5, ?6)"

abbrev pub version_row : List Term → List Term
version_row more = lit Null ∷ lit (Int (pos 2)) ∷ more

abbrev pub job_row : List Term → List Term
job_row more = col 0 0 ∷ lit Null ∷ col 0 1 ∷ col 0 2 ∷ col 0 3 ∷ col 0 4 ∷ col 0 5 ∷ col 0 6 ∷ col 0 7 ∷ col 0 8 ∷ more

abbrev pub span_row : List Term → List Term
span_row more = lit Null ∷ lit Null ∷ col 0 0 ∷ col 0 1 ∷ col 0 2 ∷ col 0 3 ∷ col 0 4 ∷ col 0 5 ∷ col 0 6 ∷ col 0 7 ∷ col 0 8 ∷ more

abbrev pub file_row : List Term → List Term
file_row more = lit Null ∷ lit Null ∷ col 0 0 ∷ col 0 1 ∷ col 0 2 ∷ col 0 3 ∷ col 0 4 ∷ col 0 5 ∷ more

abbrev pub name_cells : Dictionary → List Term → List Term
name_cells Client more = lit Null ∷ lit Null ∷ col 0 0 ∷ more
name_cells FileSet more = lit Null ∷ lit Null ∷ col 0 0 ∷ more
name_cells Media more = lit Null ∷ lit Null ∷ col 0 0 ∷ lit (Text (codes "File")) ∷ more
name_cells Path more = lit Null ∷ lit Null ∷ col 0 0 ∷ more

module _ (schema : Schema) (l : Layout) (o : Owns) (has : HasAll schema l o) where
  insert_version_may : MayInsert schema insert_version has.version.place (cells_from (with_own (version l.version) o.version) (Some 0) (1 ∷ []) (lit (Int (pos 2)) ∷ []) 1 (version_row []) o.version.columns) (length (version_columns ++ o.version.columns) + 1)
  unfolding everything
  insert_version_may = may_insert schema (with_own (version l.version) o.version) has.version insert_version (pick (first insert_version)) _ _ _ _ refl refl refl refl refl

  pub insert_version_is : InsertsMore schema insert_version has.version.place version_row (length (version_columns ++ o.version.columns))
  insert_version_is =
      let t = with_own (version l.version) o.version in
      let at : List ℕ = 1 ∷ [] in
      let given : List Term = lit (Int (pos 2)) ∷ [] in
      let more = cells_from t (Some 0) at given 1 [] o.version.columns in
      let many : length more ≡ length o.version.columns = cells_length t (Some 0) at given 1 o.version.columns in
      record {
        more = more;
        inserts = subst (λ terms. MayInsert schema insert_version has.version.place terms (length (version_columns ++ o.version.columns) + 1)) (cells_split t (Some 0) at given 1 (version_row []) o.version.columns) insert_version_may;
        wide = omega (arith, many);
      }

  insert_job_may : MayInsert schema insert_job has.job.place (cells_from (with_own (job l.job) o.job) (Some 9) (0 ∷ 2 ∷ 3 ∷ 4 ∷ 5 ∷ 6 ∷ 7 ∷ 8 ∷ 9 ∷ []) (col 0 0 ∷ col 0 1 ∷ col 0 2 ∷ col 0 3 ∷ col 0 4 ∷ col 0 5 ∷ col 0 6 ∷ col 0 7 ∷ col 0 8 ∷ []) 9 (job_row []) o.job.columns) (length (job_columns ++ o.job.columns) + 1)
  unfolding everything
  insert_job_may = may_insert schema (with_own (job l.job) o.job) has.job insert_job (pick (first insert_job)) _ _ _ _ refl refl refl refl refl

  pub insert_job_is : InsertsMore schema insert_job has.job.place job_row (length (job_columns ++ o.job.columns))
  insert_job_is =
      let t = with_own (job l.job) o.job in
      let at : List ℕ = 0 ∷ 2 ∷ 3 ∷ 4 ∷ 5 ∷ 6 ∷ 7 ∷ 8 ∷ 9 ∷ [] in
      let given : List Term = col 0 0 ∷ col 0 1 ∷ col 0 2 ∷ col 0 3 ∷ col 0 4 ∷ col 0 5 ∷ col 0 6 ∷ col 0 7 ∷ col 0 8 ∷ [] in
      let more = cells_from t (Some 9) at given 9 [] o.job.columns in
      let many : length more ≡ length o.job.columns = cells_length t (Some 9) at given 9 o.job.columns in
      record {
        more = more;
        inserts = subst (λ terms. MayInsert schema insert_job has.job.place terms (length (job_columns ++ o.job.columns) + 1)) (cells_split t (Some 9) at given 9 (job_row []) o.job.columns) insert_job_may;
        wide = omega (arith, many);
      }

  insert_span_may : MayInsert schema insert_span has.job_media.place (cells_from (with_own (job_media l.job_media) o.job_media) (Some 9) (2 ∷ 3 ∷ 4 ∷ 5 ∷ 6 ∷ 7 ∷ 8 ∷ 9 ∷ 10 ∷ []) (col 0 0 ∷ col 0 1 ∷ col 0 2 ∷ col 0 3 ∷ col 0 4 ∷ col 0 5 ∷ col 0 6 ∷ col 0 7 ∷ col 0 8 ∷ []) 10 (span_row []) o.job_media.columns) (length (job_media_columns ++ o.job_media.columns) + 1)
  unfolding everything
  insert_span_may = may_insert schema (with_own (job_media l.job_media) o.job_media) has.job_media insert_span (pick (first insert_span)) _ _ _ _ refl refl refl refl refl

  pub insert_span_is : InsertsMore schema insert_span has.job_media.place span_row (length (job_media_columns ++ o.job_media.columns))
  insert_span_is =
      let t = with_own (job_media l.job_media) o.job_media in
      let at : List ℕ = 2 ∷ 3 ∷ 4 ∷ 5 ∷ 6 ∷ 7 ∷ 8 ∷ 9 ∷ 10 ∷ [] in
      let given : List Term = col 0 0 ∷ col 0 1 ∷ col 0 2 ∷ col 0 3 ∷ col 0 4 ∷ col 0 5 ∷ col 0 6 ∷ col 0 7 ∷ col 0 8 ∷ [] in
      let more = cells_from t (Some 9) at given 10 [] o.job_media.columns in
      let many : length more ≡ length o.job_media.columns = cells_length t (Some 9) at given 10 o.job_media.columns in
      record {
        more = more;
        inserts = subst (λ terms. MayInsert schema insert_span has.job_media.place terms (length (job_media_columns ++ o.job_media.columns) + 1)) (cells_split t (Some 9) at given 10 (span_row []) o.job_media.columns) insert_span_may;
        wide = omega (arith, many);
      }

  insert_file_may : MayInsert schema insert_file has.file.place (cells_from (with_own (file l.file) o.file) (Some 6) (2 ∷ 3 ∷ 4 ∷ 5 ∷ 6 ∷ 7 ∷ []) (col 0 0 ∷ col 0 1 ∷ col 0 2 ∷ col 0 3 ∷ col 0 4 ∷ col 0 5 ∷ []) 7 (file_row []) o.file.columns) (length (file_columns ++ o.file.columns) + 1)
  unfolding everything
  insert_file_may = may_insert schema (with_own (file l.file) o.file) has.file insert_file (pick (first insert_file)) _ _ _ _ refl refl refl refl refl

  pub insert_file_is : InsertsMore schema insert_file has.file.place file_row (length (file_columns ++ o.file.columns))
  insert_file_is =
      let t = with_own (file l.file) o.file in
      let at : List ℕ = 2 ∷ 3 ∷ 4 ∷ 5 ∷ 6 ∷ 7 ∷ [] in
      let given : List Term = col 0 0 ∷ col 0 1 ∷ col 0 2 ∷ col 0 3 ∷ col 0 4 ∷ col 0 5 ∷ [] in
      let more = cells_from t (Some 6) at given 7 [] o.file.columns in
      let many : length more ≡ length o.file.columns = cells_length t (Some 6) at given 7 o.file.columns in
      record {
        more = more;
        inserts = subst (λ terms. MayInsert schema insert_file has.file.place terms (length (file_columns ++ o.file.columns) + 1)) (cells_split t (Some 6) at given 7 (file_row []) o.file.columns) insert_file_may;
        wide = omega (arith, many);
      }

  insert_client_may : MayInsert schema (insert_text Client) has.client.place (cells_from (with_own (client l.client) o.client) (Some 1) (2 ∷ []) (col 0 0 ∷ []) 2 ((name_cells Client) []) o.client.columns) (length (client_columns ++ o.client.columns) + 1)
  unfolding everything
  insert_client_may = may_insert schema (with_own (client l.client) o.client) has.client (insert_text Client) (pick (first (insert_text Client))) _ _ _ _ refl refl refl refl refl

  insert_client_is : InsertsMore schema (insert_text Client) has.client.place (name_cells Client) (length (client_columns ++ o.client.columns))
  insert_client_is =
      let t = with_own (client l.client) o.client in
      let at : List ℕ = 2 ∷ [] in
      let given : List Term = col 0 0 ∷ [] in
      let more = cells_from t (Some 1) at given 2 [] o.client.columns in
      let many : length more ≡ length o.client.columns = cells_length t (Some 1) at given 2 o.client.columns in
      record {
        more = more;
        inserts = subst (λ terms. MayInsert schema (insert_text Client) has.client.place terms (length (client_columns ++ o.client.columns) + 1)) (cells_split t (Some 1) at given 2 ((name_cells Client) []) o.client.columns) insert_client_may;
        wide = omega (arith, many);
      }

  insert_fileset_may : MayInsert schema (insert_text FileSet) has.fileset.place (cells_from (with_own (fileset l.fileset) o.fileset) (Some 1) (2 ∷ []) (col 0 0 ∷ []) 2 ((name_cells FileSet) []) o.fileset.columns) (length (fileset_columns ++ o.fileset.columns) + 1)
  unfolding everything
  insert_fileset_may = may_insert schema (with_own (fileset l.fileset) o.fileset) has.fileset (insert_text FileSet) (pick (first (insert_text FileSet))) _ _ _ _ refl refl refl refl refl

  insert_fileset_is : InsertsMore schema (insert_text FileSet) has.fileset.place (name_cells FileSet) (length (fileset_columns ++ o.fileset.columns))
  insert_fileset_is =
      let t = with_own (fileset l.fileset) o.fileset in
      let at : List ℕ = 2 ∷ [] in
      let given : List Term = col 0 0 ∷ [] in
      let more = cells_from t (Some 1) at given 2 [] o.fileset.columns in
      let many : length more ≡ length o.fileset.columns = cells_length t (Some 1) at given 2 o.fileset.columns in
      record {
        more = more;
        inserts = subst (λ terms. MayInsert schema (insert_text FileSet) has.fileset.place terms (length (fileset_columns ++ o.fileset.columns) + 1)) (cells_split t (Some 1) at given 2 ((name_cells FileSet) []) o.fileset.columns) insert_fileset_may;
        wide = omega (arith, many);
      }

  insert_media_may : MayInsert schema (insert_text Media) has.media.place (cells_from (with_own (media l.media) o.media) (Some 1) (2 ∷ 3 ∷ []) (col 0 0 ∷ lit (Text (codes "File")) ∷ []) 3 ((name_cells Media) []) o.media.columns) (length (media_columns ++ o.media.columns) + 1)
  unfolding everything
  insert_media_may = may_insert schema (with_own (media l.media) o.media) has.media (insert_text Media) (pick (first (insert_text Media))) _ _ _ _ refl refl refl refl refl

  insert_media_is : InsertsMore schema (insert_text Media) has.media.place (name_cells Media) (length (media_columns ++ o.media.columns))
  insert_media_is =
      let t = with_own (media l.media) o.media in
      let at : List ℕ = 2 ∷ 3 ∷ [] in
      let given : List Term = col 0 0 ∷ lit (Text (codes "File")) ∷ [] in
      let more = cells_from t (Some 1) at given 3 [] o.media.columns in
      let many : length more ≡ length o.media.columns = cells_length t (Some 1) at given 3 o.media.columns in
      record {
        more = more;
        inserts = subst (λ terms. MayInsert schema (insert_text Media) has.media.place terms (length (media_columns ++ o.media.columns) + 1)) (cells_split t (Some 1) at given 3 ((name_cells Media) []) o.media.columns) insert_media_may;
        wide = omega (arith, many);
      }

  insert_path_may : MayInsert schema (insert_text Path) has.path.place (cells_from (with_own (path l.path) o.path) (Some 1) (2 ∷ []) (col 0 0 ∷ []) 2 ((name_cells Path) []) o.path.columns) (length (path_columns ++ o.path.columns) + 1)
  unfolding everything
  insert_path_may = may_insert schema (with_own (path l.path) o.path) has.path (insert_text Path) (pick (first (insert_text Path))) _ _ _ _ refl refl refl refl refl

  insert_path_is : InsertsMore schema (insert_text Path) has.path.place (name_cells Path) (length (path_columns ++ o.path.columns))
  insert_path_is =
      let t = with_own (path l.path) o.path in
      let at : List ℕ = 2 ∷ [] in
      let given : List Term = col 0 0 ∷ [] in
      let more = cells_from t (Some 1) at given 2 [] o.path.columns in
      let many : length more ≡ length o.path.columns = cells_length t (Some 1) at given 2 o.path.columns in
      record {
        more = more;
        inserts = subst (λ terms. MayInsert schema (insert_text Path) has.path.place terms (length (path_columns ++ o.path.columns) + 1)) (cells_split t (Some 1) at given 2 ((name_cells Path) []) o.path.columns) insert_path_may;
        wide = omega (arith, many);
      }

  abbrev pub place_of : Dictionary → ℕ
  place_of Client = has.client.place
  place_of FileSet = has.fileset.place
  place_of Media = has.media.place
  place_of Path = has.path.place

  abbrev pub columns_of : Dictionary → ℕ
  columns_of Client = length (client_columns ++ o.client.columns)
  columns_of FileSet = length (fileset_columns ++ o.fileset.columns)
  columns_of Media = length (media_columns ++ o.media.columns)
  columns_of Path = length (path_columns ++ o.path.columns)

  pub insert_name_is : (d : Dictionary) → InsertsMore schema (insert_text d) (place_of d) (name_cells d) (columns_of d)
  insert_name_is Client = insert_client_is
  insert_name_is FileSet = insert_fileset_is
  insert_name_is Media = insert_media_is
  insert_name_is Path = insert_path_is
