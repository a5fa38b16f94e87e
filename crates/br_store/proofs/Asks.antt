-- The queries over jobs, spans, files and the version, and what it is that a text means one.
use Rattle.std.proofs.Common.{◌≡◌, ℕ, pos, negsuc, List, [], ◌∷◌, codes, false, None, Ok, refl}
use Rattle.sqlite.specs.declared.types.Value.TheVariants.{Int}
use Rattle.sqlite.specs.Collation.TheVariants.{Binary}
use Rattle.sqlite.specs.Term.{lit, col, op2}
use Rattle.sqlite_sql.specs.declared.ops.BinaryOp.TheVariants.{Compare}
use Rattle.sqlite_sql.specs.declared.ops.CompareOp.TheVariants.{Eq}
use Rattle.sqlite_value.specs.Keys.{ascending}
use Rattle.sqlite.specs.Query.{Query, inner, end}
use Rattle.sqlite.specs.Schema.{Schema}
use Rattle.sqlite.specs.Command.TheVariants.{Select}
use Rattle.sqlite.specs.Listing.{understood, reads_listing}
use Rattle.sqlite.proofs.Callers.{IsPlain, command_of}
use Rattle.sqlite_resolve.specs.Compile.{first, planned}
use Rattle.sqlite_syntax.specs.declared.statement.Parsed.{Parsed}
use Rattle.br_catalog_tables.specs.TreePlaces.{Layout}
pub use Rattle.br_store.specs.Queries.{select_files}
use Rattle.br_store.proofs.Compiled.{compiled_ok}

-- the text means this query
pub record Shows (schema : Schema) (text : List ℕ) (query : Query) (names : List (List ℕ)) : Type 0 where
  pub command : command_of (understood schema text) ≡ Select (record { lets = []; body = query }) names
  pub unlisted : reads_listing schema text ≡ false
  pub plain : IsPlain (understood schema text)

pub shows_from : (schema : Schema) (text : List ℕ) (p : Parsed) (query : Query) (names : List (List ℕ)) → first text ≡ Ok p
    → planned schema p ≡ Ok ([], (Select (record { lets = []; body = query }) names, None)) → Shows schema text query names
unfolding understood
shows_from schema text p query names read plan =
    let is = compiled_ok schema text p _ read plan in
    record { command = rw is refl; unlisted = rw is refl; plain = rw is (refl, refl) }

-- ---- queries

abbrev pub select_versions : List ℕ
select_versions = codes "SELECT VersionId FROM Version ORDER BY rowid"

abbrev pub select_jobs : List ℕ
select_jobs = codes "SELECT Job.JobId, Job.Type, Job.Level, Client.Name, Job.JobStatus, Job.StartTime, FileSet.FileSet, Job.VolSessionId, Job.VolSessionTime FROM Job JOIN Client ON Client.ClientId = Job.ClientId JOIN FileSet ON FileSet.FileSetId = Job.FileSetId ORDER BY Job.JobId"

abbrev pub select_spans : List ℕ
select_spans = codes "SELECT JobMedia.JobId, Media.VolumeName, JobMedia.FirstIndex, JobMedia.LastIndex, JobMedia.StartFile, JobMedia.EndFile, JobMedia.StartBlock, JobMedia.EndBlock, JobMedia.VolIndex FROM JobMedia JOIN Media ON Media.MediaId = JobMedia.MediaId ORDER BY JobMedia.JobMediaId"

abbrev pub versions_query : ℕ → Query
versions_query tree = record {
  from = inner tree end;
  filter = [];
  group = None;
  project = col 1 1 ∷ [];
  distinct = false;
  collations = [];
  order = (col 1 0, ascending Binary) ∷ [];
  limit = lit (Int (negsuc 0));
  offset = lit (Int (pos 0));
}

abbrev pub jobs_query : Layout → Query
jobs_query l = record {
  from = inner l.job (inner l.client (inner l.fileset end));
  filter = op2 (Compare Eq Binary) (col 2 0) (col 1 4) ∷ op2 (Compare Eq Binary) (col 3 0) (col 1 7) ∷ [];
  group = None;
  project = col 1 0 ∷ col 1 2 ∷ col 1 3 ∷ col 2 2 ∷ col 1 5 ∷ col 1 6 ∷ col 3 2 ∷ col 1 8 ∷ col 1 9 ∷ [];
  distinct = false;
  collations = [];
  order = (col 1 0, ascending Binary) ∷ [];
  limit = lit (Int (negsuc 0));
  offset = lit (Int (pos 0));
}

abbrev pub spans_query : Layout → Query
spans_query l = record {
  from = inner l.job_media (inner l.media end);
  filter = op2 (Compare Eq Binary) (col 2 0) (col 1 3) ∷ [];
  group = None;
  project = col 1 2 ∷ col 2 2 ∷ col 1 4 ∷ col 1 5 ∷ col 1 6 ∷ col 1 7 ∷ col 1 8 ∷ col 1 9 ∷ col 1 10 ∷ [];
  distinct = false;
  collations = [];
  order = (col 1 0, ascending Binary) ∷ [];
  limit = lit (Int (negsuc 0));
  offset = lit (Int (pos 0));
}

abbrev pub files_query : Layout → Query
files_query l = record {
  from = inner l.file (inner l.path end);
  filter = op2 (Compare Eq Binary) (col 2 0) (col 1 4) ∷ [];
  group = None;
  project = col 1 3 ∷ col 1 2 ∷ col 2 2 ∷ col 1 5 ∷ col 1 6 ∷ col 1 7 ∷ [];
  distinct = false;
  collations = [];
  order = (col 1 0, ascending Binary) ∷ [];
  limit = lit (Int (negsuc 0));
  offset = lit (Int (pos 0));
}

abbrev pub version_names : List (List ℕ)
version_names = codes "VersionId" ∷ []

abbrev pub job_names : List (List ℕ)
job_names = codes "JobId" ∷ codes "Type" ∷ codes "Level" ∷ codes "Name" ∷ codes "JobStatus" ∷ codes "StartTime" ∷ codes "FileSet" ∷ codes "VolSessionId" ∷ codes "VolSessionTime" ∷ []

abbrev pub span_names : List (List ℕ)
span_names = codes "JobId" ∷ codes "VolumeName" ∷ codes "FirstIndex" ∷ codes "LastIndex" ∷ codes "StartFile" ∷ codes "EndFile" ∷ codes "StartBlock" ∷ codes "EndBlock" ∷ codes "VolIndex" ∷ []

abbrev pub file_names : List (List ℕ)
file_names = codes "JobId" ∷ codes "FileIndex" ∷ codes "Path" ∷ codes "Filename" ∷ codes "LStat" ∷ codes "MD5" ∷ []
