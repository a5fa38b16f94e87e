-- The view of chosen jobs: the newest copy of each path.
use Rattle.std.specs.Prelude.{◌≡◌, ℕ, Bool, ◌==◌, if◌then◌else◌, List, [], ◌∷◌, map, filter, filter_map, flat_map, find, bytes_eq, Option, Some, None, option_and_then, ℤ}
use Rattle.std.specs.List.{list_any, last_or}
use Rattle.std.specs.Result.{result_unwrap_or}
use Rattle.br_model.specs.Order.{in_order}
use Rattle.br_model.specs.Name.{SessionKey}
use Rattle.br_model.specs.Attribute.{Stat, stat_from, read_stat}
use Rattle.br_model.specs.Job.{FileRow, JobRows}
use Rattle.br_model.specs.Choice.{last_job}

-- the newest copy of a path: its job and index, its size, and the index of the file that it is a hard link to, or 0
pub record Entry : Type 0 where
  pub path : List ℕ
  pub job : ℕ
  pub session : SessionKey
  pub index : ℕ
  pub size : ℤ
  pub link_index : ℤ

-- whether the row is of the path
abbrev pub is_row_of : List ℕ → FileRow → Bool
is_row_of path f = bytes_eq f.path path

-- the last of the jobs that have a row for the path
abbrev pub newest_job : List JobRows → List ℕ → Option JobRows
newest_job jobs path = last_job (filter (λ (j : JobRows). list_any (is_row_of path) j.files) jobs)

-- the row of the path with the greatest index
abbrev pub newest_row : JobRows → List ℕ → Option FileRow
newest_row j path = last_or None (in_order (λ (f : FileRow). f.index ∷ []) (filter (is_row_of path) j.files))

-- the numbers of a row, or zeros
abbrev pub row_stat : FileRow → Stat
row_stat f = result_unwrap_or (read_stat f.lstat) (stat_from [])

-- the entry of a row of a job
abbrev pub entry_from : JobRows → FileRow → Entry
entry_from j f = record {
  path = f.path;
  job = j.row.id;
  session = j.row.session;
  index = f.index;
  size = (row_stat f).size;
  link_index = (row_stat f).link_index;
}

-- no entry if the newest row notes a deletion
abbrev pub unless_deleted : JobRows → FileRow → Option Entry
unless_deleted j f = if f.index == 0 then None else Some (entry_from j f)

-- the newest copy of a path, if there is one: that of the last job with a row for it
unfoldable pub entry_of : List JobRows → List ℕ → Option Entry
entry_of jobs path = option_and_then (λ j. option_and_then (unless_deleted j) (newest_row j path)) (newest_job jobs path)

-- the paths of the jobs in byte order
unfoldable pub paths_of : List JobRows → List (List ℕ)
paths_of jobs = in_order (λ path. path) (flat_map (λ (j : JobRows). map (λ (f : FileRow). f.path) j.files) jobs)

-- the entries in byte order of their paths
unfoldable pub view_of : List JobRows → List Entry
view_of jobs = filter_map (entry_of jobs) (paths_of jobs)

-- the entry of a path, if it is in the view
unfoldable pub entry_at : List Entry → List ℕ → Option Entry
entry_at view path = find (λ (e : Entry). bytes_eq e.path path) view

-- the paths of the entries
abbrev pub view_paths : List Entry → List (List ℕ)
view_paths view = map (λ (e : Entry). e.path) view

-- entries in byte order of their paths, each path once
abbrev pub IsView : List Entry → Type 0
IsView view = in_order (λ (e : Entry). e.path) view ≡ view

-- the view of jobs is in byte order of its paths, each path once
abbrev pub ViewIsInOrder : Type 0
ViewIsInOrder = (jobs : List JobRows) → IsView (view_of jobs)

-- the view has the newest copy at each path
abbrev pub ViewIsLookups : Type 0
ViewIsLookups = (jobs : List JobRows) (path : List ℕ) → entry_at (view_of jobs) path ≡ entry_of jobs path
