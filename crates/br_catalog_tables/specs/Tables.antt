-- The tables of the catalogue.
use Rattle.std.specs.Prelude.{true, false, [], ◌∷◌, Some, None, codes, List, ℕ, ◌+◌, map}
use Rattle.sqlite.specs.Collation.TheVariants.{Binary}
use Rattle.sqlite.specs.declared.types.Value.TheVariants.{Null}
use Rattle.sqlite.specs.Table.{Table}
use Rattle.sqlite.specs.Schema.{Schema}
use Rattle.sqlite.specs.Kind.{Kind}
use Rattle.sqlite.specs.Kind.TheVariants.{Integer, Text, Any}
use Rattle.sqlite_value.specs.declared.keys.Order.{Order}
use Rattle.sqlite_schema.specs.declared.schema.Column.{Column}
use Rattle.sqlite_schema.specs.declared.schema.Reference.{Reference}
use Rattle.sqlite_schema.specs.declared.schema.Index.{Index}
use Rattle.sqlite_schema.specs.declared.schema.Action.TheVariants.{NoAction}
use Rattle.br_catalog_tables.specs.TreePlaces.{Layout, new_layout, row_number, name_column}
use Rattle.br_catalog_tables.specs.TreePlaces.{job_client, job_fileset, job_session_id, job_session_time, span_job, span_media, span_vol_index}
use Rattle.br_catalog_tables.specs.TreePlaces.{file_job, file_path}

-- ---- the texts that make the tables

abbrev pub create_version : List ℕ
create_version = codes "CREATE TABLE Version(VersionId INTEGER NOT NULL)"

abbrev pub create_client : List ℕ
create_client = codes "CREATE TABLE Client(ClientId INTEGER PRIMARY KEY, Name TEXT NOT NULL UNIQUE)"

abbrev pub create_fileset : List ℕ
create_fileset = codes "CREATE TABLE FileSet(FileSetId INTEGER PRIMARY KEY, FileSet TEXT NOT NULL UNIQUE)"

abbrev pub create_media : List ℕ
create_media = codes "CREATE TABLE Media(MediaId INTEGER PRIMARY KEY, VolumeName TEXT NOT NULL UNIQUE, MediaType TEXT NOT NULL)"

abbrev pub create_path : List ℕ
create_path = codes "CREATE TABLE Path(PathId INTEGER PRIMARY KEY, Path BLOB NOT NULL UNIQUE)"

abbrev pub create_job : List ℕ
create_job = codes "CREATE TABLE Job(JobId INTEGER PRIMARY KEY, Type TEXT NOT NULL, Level TEXT NOT NULL, ClientId INTEGER NOT NULL REFERENCES Client(ClientId), JobStatus TEXT NOT NULL, StartTime INTEGER NOT NULL, FileSetId INTEGER NOT NULL REFERENCES FileSet(FileSetId), VolSessionId INTEGER NOT NULL, VolSessionTime INTEGER NOT NULL, UNIQUE(VolSessionId, VolSessionTime))"

abbrev pub create_job_media : List ℕ
create_job_media = codes "CREATE TABLE JobMedia(JobMediaId INTEGER PRIMARY KEY, JobId INTEGER NOT NULL REFERENCES Job(JobId), MediaId INTEGER NOT NULL REFERENCES Media(MediaId), FirstIndex INTEGER NOT NULL, LastIndex INTEGER NOT NULL, StartFile INTEGER NOT NULL, EndFile INTEGER NOT NULL, StartBlock INTEGER NOT NULL, EndBlock INTEGER NOT NULL, VolIndex INTEGER NOT NULL, UNIQUE(JobId, VolIndex))"

abbrev pub create_file : List ℕ
create_file = codes "CREATE TABLE File(FileId INTEGER PRIMARY KEY, FileIndex INTEGER NOT NULL, JobId INTEGER NOT NULL REFERENCES Job(JobId), PathId INTEGER NOT NULL REFERENCES Path(PathId), Filename BLOB NOT NULL, LStat TEXT NOT NULL, MD5 TEXT NOT NULL)"

-- ---- the tables, each in its tree

-- a column that is not null
abbrev pub column : List ℕ → Kind → Column
column name kind = record { name = name; kind = kind; is_strict = false; not_null = true; default = Null; collation = Binary }

-- the column of the key, which may be null in the row since the row's number is its value
abbrev pub key_column : List ℕ → Column
key_column name = record { name = name; kind = Integer; is_strict = false; not_null = false; default = Null; collation = Binary }

-- the column at a place refers to a column of another table
abbrev pub refers : ℕ → List ℕ → List ℕ → Reference
refers at parent name =
    record { columns = at ∷ []; parent = parent; parent_columns = name ∷ []; on_delete = NoAction; on_update = NoAction; is_deferred = false }

abbrev pub plain_order : Order
plain_order = record { digits = 0 }

-- a table whose first column is its key, whose rows differ in the columns of each list of
-- `uniques`, and which has no check, no computed default and no count
abbrev pub keyed_table : List ℕ → ℕ → List Column → List (List ℕ) → List Reference → Table
keyed_table name tree columns uniques references = record {
  name = name;
  tree = tree;
  columns = columns;
  key = Some 0;
  primary = row_number ∷ [];
  uniques = uniques;
  orders = map (λ (places : List ℕ). plain_order) uniques;
  checks = [];
  references = references;
  computed = [];
  stamps = record { places = []; terms = []; formats = [] };
  is_counted = false;
}

abbrev pub version_columns : List Column
version_columns = column (codes "VersionId") Integer ∷ []

abbrev pub version : ℕ → Table
version tree = record {
  name = codes "Version";
  tree = tree;
  columns = version_columns;
  key = None;
  primary = [];
  uniques = [];
  orders = [];
  checks = [];
  references = [];
  computed = [];
  stamps = record { places = []; terms = []; formats = [] };
  is_counted = false;
}

abbrev pub client_columns : List Column
client_columns = key_column (codes "ClientId") ∷ column (codes "Name") Text ∷ []

abbrev pub client : ℕ → Table
client tree = keyed_table (codes "Client") tree client_columns ((name_column ∷ []) ∷ []) []

abbrev pub fileset_columns : List Column
fileset_columns = key_column (codes "FileSetId") ∷ column (codes "FileSet") Text ∷ []

abbrev pub fileset : ℕ → Table
fileset tree = keyed_table (codes "FileSet") tree fileset_columns ((name_column ∷ []) ∷ []) []

abbrev pub media_columns : List Column
media_columns =
    key_column (codes "MediaId") ∷ column (codes "VolumeName") Text
    ∷ column (codes "MediaType") Text ∷ []

abbrev pub media : ℕ → Table
media tree = keyed_table (codes "Media") tree media_columns ((name_column ∷ []) ∷ []) []

abbrev pub path_columns : List Column
path_columns = key_column (codes "PathId") ∷ column (codes "Path") Any ∷ []

abbrev pub path : ℕ → Table
path tree = keyed_table (codes "Path") tree path_columns ((name_column ∷ []) ∷ []) []

abbrev pub job_columns : List Column
job_columns =
    key_column (codes "JobId") ∷ column (codes "Type") Text ∷ column (codes "Level") Text
    ∷ column (codes "ClientId") Integer ∷ column (codes "JobStatus") Text
    ∷ column (codes "StartTime") Integer ∷ column (codes "FileSetId") Integer
    ∷ column (codes "VolSessionId") Integer ∷ column (codes "VolSessionTime") Integer ∷ []

abbrev pub job_references : List Reference
job_references = refers job_client (codes "Client") (codes "ClientId") ∷ refers job_fileset (codes "FileSet") (codes "FileSetId") ∷ []

abbrev pub job : ℕ → Table
job tree = keyed_table (codes "Job") tree job_columns ((job_session_id ∷ job_session_time ∷ []) ∷ []) job_references

abbrev pub job_media_columns : List Column
job_media_columns =
    key_column (codes "JobMediaId") ∷ column (codes "JobId") Integer
    ∷ column (codes "MediaId") Integer ∷ column (codes "FirstIndex") Integer
    ∷ column (codes "LastIndex") Integer ∷ column (codes "StartFile") Integer
    ∷ column (codes "EndFile") Integer ∷ column (codes "StartBlock") Integer
    ∷ column (codes "EndBlock") Integer ∷ column (codes "VolIndex") Integer ∷ []

abbrev pub job_media_references : List Reference
job_media_references = refers span_job (codes "Job") (codes "JobId") ∷ refers span_media (codes "Media") (codes "MediaId") ∷ []

abbrev pub job_media : ℕ → Table
job_media tree = keyed_table (codes "JobMedia") tree job_media_columns ((span_job ∷ span_vol_index ∷ []) ∷ []) job_media_references

abbrev pub file_columns : List Column
file_columns =
    key_column (codes "FileId") ∷ column (codes "FileIndex") Integer
    ∷ column (codes "JobId") Integer ∷ column (codes "PathId") Integer
    ∷ column (codes "Filename") Any ∷ column (codes "LStat") Text
    ∷ column (codes "MD5") Text ∷ []

abbrev pub file_references : List Reference
file_references =
    refers file_job (codes "Job") (codes "JobId") ∷ refers file_path (codes "Path") (codes "PathId") ∷ []

abbrev pub file : ℕ → Table
file tree = keyed_table (codes "File") tree file_columns [] file_references

-- ---- schemas

-- the catalogue's tables in these trees
abbrev pub tables_at : Layout → List Table
tables_at l = version l.version ∷ client l.client ∷ fileset l.fileset ∷ media l.media ∷ path l.path ∷ job l.job ∷ job_media l.job_media ∷ file l.file ∷ []

-- ---- the schemas of a new catalogue, as its tables are made

-- ---- indexes

-- the index of a table that lets no two of its rows have the same values in these columns
abbrev pub unique_index : List ℕ → ℕ → ℕ → List ℕ → Index
unique_index name tree table places = record { name = name; tree = tree; table = table; columns = places; order = record { digits = 0 }; is_unique = true }

abbrev pub client_index : ℕ → Index
client_index tree = unique_index (codes "sqlite_autoindex_Client_1") (tree + 1) tree (name_column ∷ [])

abbrev pub fileset_index : ℕ → Index
fileset_index tree = unique_index (codes "sqlite_autoindex_FileSet_1") (tree + 1) tree (name_column ∷ [])

abbrev pub media_index : ℕ → Index
media_index tree = unique_index (codes "sqlite_autoindex_Media_1") (tree + 1) tree (name_column ∷ [])

abbrev pub path_index : ℕ → Index
path_index tree = unique_index (codes "sqlite_autoindex_Path_1") (tree + 1) tree (name_column ∷ [])

abbrev pub job_index : ℕ → Index
job_index tree = unique_index (codes "sqlite_autoindex_Job_1") (tree + 1) tree (job_session_id ∷ job_session_time ∷ [])

abbrev pub job_media_index : ℕ → Index
job_media_index tree = unique_index (codes "sqlite_autoindex_JobMedia_1") (tree + 1) tree (span_job ∷ span_vol_index ∷ [])

abbrev pub no_schema : Schema
no_schema = record { tables = []; indexes = []; views = [] }

abbrev pub one_table : Schema
one_table = record { tables = version 0 ∷ []; indexes = []; views = [] }

abbrev pub two_tables : Schema
two_tables = record { tables = version 0 ∷ client 1 ∷ []; indexes = client_index 1 ∷ []; views = [] }

abbrev pub three_tables : Schema
three_tables = record { tables = version 0 ∷ client 1 ∷ fileset 3 ∷ []; indexes = client_index 1 ∷ fileset_index 3 ∷ []; views = [] }

abbrev pub four_tables : Schema
four_tables = record { tables = version 0 ∷ client 1 ∷ fileset 3 ∷ media 5 ∷ []; indexes = client_index 1 ∷ fileset_index 3 ∷ media_index 5 ∷ []; views = [] }

abbrev pub five_tables : Schema
five_tables = record { tables = version 0 ∷ client 1 ∷ fileset 3 ∷ media 5 ∷ path 7 ∷ []; indexes = client_index 1 ∷ fileset_index 3 ∷ media_index 5 ∷ path_index 7 ∷ []; views = [] }

abbrev pub six_tables : Schema
six_tables = record { tables = version 0 ∷ client 1 ∷ fileset 3 ∷ media 5 ∷ path 7 ∷ job 9 ∷ []; indexes = client_index 1 ∷ fileset_index 3 ∷ media_index 5 ∷ path_index 7 ∷ job_index 9 ∷ []; views = [] }

abbrev pub seven_tables : Schema
seven_tables = record { tables = version 0 ∷ client 1 ∷ fileset 3 ∷ media 5 ∷ path 7 ∷ job 9 ∷ job_media 11 ∷ []; indexes = client_index 1 ∷ fileset_index 3 ∷ media_index 5 ∷ path_index 7 ∷ job_index 9 ∷ job_media_index 11 ∷ []; views = [] }

-- the indexes of the keys, each in the tree after that of its table
abbrev pub key_indexes : Layout → List Index
key_indexes l = client_index l.client ∷ fileset_index l.fileset ∷ media_index l.media ∷ path_index l.path ∷ job_index l.job ∷ job_media_index l.job_media ∷ []

-- the catalogue's tables in these trees, and nothing else but the indexes of their keys
abbrev pub only_tables : Layout → Schema
only_tables l = record { tables = tables_at l; indexes = key_indexes l; views = [] }

abbrev pub new_schema : Schema
new_schema = only_tables new_layout
