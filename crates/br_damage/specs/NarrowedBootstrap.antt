-- A bootstrap without the files that are lost.
use Rattle.std.specs.Prelude.{◌≡◌, ℕ, ◌+◌, ◌<◌, ◌≤◌, ◌^◌, Bool, true, false, not, ◌&&◌, ◌||◌, List, [], ◌∷◌, length, ℤ, nat_abs, bytes_eq, Option, Some, None, is_some, if◌then◌else◌}
use Rattle.std.specs.Int.{is_positive}
use Rattle.std.specs.List.{list_all, list_any}
use Rattle.br_model.specs.Name.{SessionKey}
use Rattle.br_model.specs.Bootstrap.{Group, admits, hits_by}
use Rattle.br_model.specs.BootstrapText.{is_group}
use Rattle.br_piece.specs.Missing.{admits_session}
use Rattle.br_piece.specs.MissingLines.{greatest_index, report}
use Rattle.br_damage.specs.GroupSessions.{place, session_of}
use Rattle.br_damage.specs.LostFiles.{has_place}
use Rattle.br_damage.specs.declared.lost_files.Span.{Span}
use Rattle.br_damage.specs.declared.narrowed_bootstrap.NarrowedBootstrap.{NarrowedBootstrap}

-- whether a flag is this one
abbrev pub is_flag : Bool → Bool → Bool
is_flag true other = other
is_flag false other = not other

-- the groups that have this flag
abbrev pub with_flag : Bool → List Bool → List Group → List Group
with_flag flag [] gs = []
with_flag flag (b ∷ bs) [] = []
with_flag flag (b ∷ bs) (g ∷ gs) = if is_flag flag b then g ∷ with_flag flag bs gs else with_flag flag bs gs

-- a record in a block of a volume
pub record Sought : Type 0 where
  pub volume : List ℕ
  pub address : ℕ
  pub session : SessionKey
  pub index : ℤ
  pub stream : ℤ

-- whether the group names a session and asks for the record
abbrev pub asks_for : Sought → Group → Bool
asks_for r g = is_some (session_of g) && bytes_eq g.volume r.volume && hits_by g r.address r.session r.index r.stream

-- whether one of the groups does
abbrev pub ask_for : List Group → Sought → Bool
ask_for groups r = list_any (asks_for r) groups

-- whether the record is one of a file that is lost
abbrev pub is_lost : List Span → Sought → Bool
is_lost lost r = has_place lost (place r.session (nat_abs r.index))

-- the group asks for the same records, without those of lost files; there is no group if it asks for none
abbrev pub IsNarrowed : List Span → Group → Option Group → Type 0
IsNarrowed lost g None = (r : Sought) → nat_abs r.index ≤ greatest_index → (asks_for r g && not (is_lost lost r)) ≡ false
IsNarrowed lost g (Some left) = (r : Sought) → nat_abs r.index ≤ greatest_index → asks_for r left ≡ (asks_for r g && not (is_lost lost r))

-- groups with those of one group more
abbrev pub LeavesOfGroup : List Span → Group → List Group → List Group → Type 0
LeavesOfGroup lost g old new =
    (r : Sought) → nat_abs r.index ≤ greatest_index → ask_for new r ≡ (ask_for old r || asks_for r g && not (is_lost lost r))

-- there is at most one group more, and the groups are valid if those before them and the group are
pub record AddsValid (g : Group) (old new : List Group) : Type 0 where
  pub few : length new ≤ length old + 1
  pub valid : is_group g ≡ true → list_all is_group old ≡ true → list_all is_group new ≡ true

-- the groups that are left ask for the same records, without those of lost files
abbrev pub LeaveBySpans : List Span → List Group → List Group → Type 0
LeaveBySpans lost groups left = (r : Sought) → nat_abs r.index ≤ greatest_index → ask_for left r ≡ (ask_for groups r && not (is_lost lost r))

-- ---- by the groups that are lost

-- the record can be one of a file
pub record IsOfFile (r : Sought) : Type 0 where
  pub some : is_positive r.index ≡ true
  pub most : nat_abs r.index ≤ greatest_index
  pub id : r.session.id < 2 ^ 32
  pub time : r.session.time < 2 ^ 32

-- whether the group names the session of a file, and asks for the file by its index
abbrev pub asks_for_file : SessionKey → ℕ → Group → Bool
asks_for_file s n g = is_some (session_of g) && admits_session g s && admits g.indexes n

-- whether one of the groups asks for the file of the record
abbrev pub ask_for_file : List Group → Sought → Bool
ask_for_file groups r = list_any (asks_for_file r.session (nat_abs r.index)) groups

-- The groups that are left ask for the same records of files, without those of the files that a lost
-- group asks for.
abbrev pub Leaves : List Group → List Group → List Group → Type 0
Leaves lost groups left = (r : Sought) → IsOfFile r → ask_for left r ≡ (ask_for groups r && not (ask_for_file lost r))

-- ---- by flags, which say for each group whether it is lost

-- the flags, with those of the groups on a volume set
abbrev pub with_volume : List ℕ → List Bool → List Group → List Bool
with_volume vol [] gs = []
with_volume vol (b ∷ bs) [] = []
with_volume vol (b ∷ bs) (g ∷ gs) = (b || bytes_eq g.volume vol) ∷ with_volume vol bs gs

-- some of the flags are set, but not all
abbrev pub are_some : List Bool → Bool
are_some flags = list_any (λ b. b) flags && not (list_all (λ b. b) flags)

-- each group names one session
abbrev pub are_named : List Group → Bool
are_named groups = list_all (λ g. is_some (session_of g)) groups

-- Some groups are lost, and others are not. These ask for the same records as before, without those of
-- files that a lost group asks for. The lines name the indexes that lost groups ask for. Each group
-- names one session.
pub record IsNarrowedBy (flags : List Bool) (groups left : List Group) (missing : List ℕ) : Type 0 where
  pub each : length flags ≡ length groups
  pub named : are_named groups ≡ true
  pub some : are_some flags ≡ true
  pub leaves : Leaves (with_flag true flags groups) (with_flag false flags groups) left
  pub lines : missing ≡ report (with_flag true flags groups) [] []

-- what is left by flags; nothing if no group is lost, or each is, or if one does not name a session
abbrev pub NarrowsBy : List Bool → List Group → Option NarrowedBootstrap → Type 0
NarrowsBy flags groups None = (are_named groups && are_some flags) ≡ false
NarrowsBy flags groups (Some n) = IsNarrowedBy flags groups n.left n.missing.items

-- what is left by some flags
pub record IsNarrowedOf (groups left : List Group) (missing : List ℕ) : Type 0 where
  pub flags : List Bool
  pub by : IsNarrowedBy flags groups left missing
