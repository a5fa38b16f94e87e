-- The trees that hold the tables, and the places of the columns in their rows: the row's number
-- comes first, then the columns in the order of the table.
use Rattle.std.specs.Prelude.{ℕ}

-- the trees that hold the catalogue's tables
pub record Layout : Type 0 where
  pub version : ℕ
  pub client : ℕ
  pub fileset : ℕ
  pub media : ℕ
  pub path : ℕ
  pub job : ℕ
  pub job_media : ℕ
  pub file : ℕ

-- The trees of a new catalogue: a table has the number after those of the tables before it and of
-- the indexes of their keys.
abbrev pub new_layout : Layout
new_layout = record { version = 0; client = 1; fileset = 3; media = 5; path = 7; job = 9; job_media = 11; file = 13 }

-- ---- columns

-- the row's number, which is the key of each table but Version
abbrev pub row_number : ℕ
row_number = 0

abbrev pub version_id : ℕ
version_id = 1

-- the name in the tables Client, FileSet, Media and Path
abbrev pub name_column : ℕ
name_column = 2

-- the type of a volume in the table Media
abbrev pub media_type : ℕ
media_type = 3

abbrev pub job_type : ℕ
job_type = 2

abbrev pub job_level : ℕ
job_level = 3

abbrev pub job_client : ℕ
job_client = 4

abbrev pub job_status : ℕ
job_status = 5

abbrev pub job_start_time : ℕ
job_start_time = 6

abbrev pub job_fileset : ℕ
job_fileset = 7

abbrev pub job_session_id : ℕ
job_session_id = 8

abbrev pub job_session_time : ℕ
job_session_time = 9

abbrev pub span_job : ℕ
span_job = 2

abbrev pub span_media : ℕ
span_media = 3

abbrev pub span_first_index : ℕ
span_first_index = 4

abbrev pub span_last_index : ℕ
span_last_index = 5

abbrev pub span_start_file : ℕ
span_start_file = 6

abbrev pub span_end_file : ℕ
span_end_file = 7

abbrev pub span_start_block : ℕ
span_start_block = 8

abbrev pub span_end_block : ℕ
span_end_block = 9

abbrev pub span_vol_index : ℕ
span_vol_index = 10

abbrev pub file_index : ℕ
file_index = 2

abbrev pub file_job : ℕ
file_job = 3

abbrev pub file_path : ℕ
file_path = 4

abbrev pub file_filename : ℕ
file_filename = 5

abbrev pub file_lstat : ℕ
file_lstat = 6

abbrev pub file_md5 : ℕ
file_md5 = 7
