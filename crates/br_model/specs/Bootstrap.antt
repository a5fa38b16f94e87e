-- Bootstraps: groups of criteria that say which fragments of a volume are to be restored.
use Rattle.std.specs.Prelude.{ℕ, ◌/◌, ◌%◌, ◌^◌, Bool, ◌&&◌, ◌||◌, ◌==◌, if◌then◌else◌, List, [], ◌∷◌, ◌++◌, flat_map, decimal, codes, ℤ, nat_abs}
use Rattle.std.specs.List.{list_any}
use Rattle.std.specs.Int.{is_in_range, is_positive}
use Rattle.br_model.specs.Text.{is_empty, line}
use Rattle.br_model.specs.Name.{SessionKey}
use Rattle.br_model.specs.Block.{Fragment}

-- the numbers from low to high, both included
pub record Range : Type 0 where
  pub low : ℕ
  pub high : ℕ

-- what a group may select fragments by
pub data Criterion : Type 0 where
  SessionId : Criterion
  SessionTime : Criterion
  VolFile : Criterion
  VolBlock : Criterion
  VolAddr : Criterion
  FileIndex : Criterion
  Stream : Criterion

-- a volume, and for each criterion its ranges; a criterion without ranges is missing
pub record Group : Type 0 where
  pub volume : List ℕ
  pub session_ids : List Range
  pub session_times : List Range
  pub files : List Range
  pub blocks : List Range
  pub addresses : List Range
  pub indexes : List Range
  pub streams : List Range

-- the group on a volume without criteria
abbrev pub group_on : List ℕ → Group
group_on volume = record {
  volume = volume;
  session_ids = [];
  session_times = [];
  files = [];
  blocks = [];
  addresses = [];
  indexes = [];
  streams = [];
}

-- the group with more ranges appended to those of a criterion
abbrev pub with_ranges : Criterion → List Range → Group → Group
with_ranges SessionId rs g = record g { session_ids = g.session_ids ++ rs }
with_ranges SessionTime rs g = record g { session_times = g.session_times ++ rs }
with_ranges VolFile rs g = record g { files = g.files ++ rs }
with_ranges VolBlock rs g = record g { blocks = g.blocks ++ rs }
with_ranges VolAddr rs g = record g { addresses = g.addresses ++ rs }
with_ranges FileIndex rs g = record g { indexes = g.indexes ++ rs }
with_ranges Stream rs g = record g { streams = g.streams ++ rs }

-- ---- which fragments a group hits

-- a criterion admits a number that one of its ranges contains; a missing one admits all
abbrev pub admits : List Range → ℕ → Bool
admits rs n = is_empty rs || list_any (λ (r : Range). is_in_range r.low r.high n) rs

-- the group hits a record with this session, index and stream in the block at this address: the
-- index is above 0, and each criterion admits its number
abbrev pub hits_by : Group → ℕ → SessionKey → ℤ → ℤ → Bool
hits_by g address session index stream =
    is_positive index && admits g.session_ids session.id && admits g.session_times session.time
    && admits g.files (address / 2 ^ 32) && admits g.blocks (address % 2 ^ 32) && admits g.addresses address
    && admits g.indexes (nat_abs index) && admits g.streams (nat_abs stream)

-- the group hits the fragment in the block at this address
unfoldable pub hits : Group → ℕ → Fragment → Bool
hits g address f = hits_by g address f.session f.index f.stream

-- ---- canonical text

-- one number, or two with a dash between them
abbrev pub range_text : Range → List ℕ
range_text r = if r.low == r.high then decimal r.low else decimal r.low ++ 45 ∷ decimal r.high

-- a line for each range
abbrev pub range_lines : List ℕ → List Range → List ℕ
range_lines keyword rs = flat_map (λ r. line (keyword ++ 61 ∷ range_text r)) rs

-- the volume's line, then the lines of each criterion, with the criteria in this order
abbrev pub group_text : Group → List ℕ
group_text g =
    line (codes "Volume=\"" ++ g.volume ++ codes "\"") ++ range_lines (codes "VolSessionId") g.session_ids
    ++ range_lines (codes "VolSessionTime") g.session_times ++ range_lines (codes "VolFile") g.files
    ++ range_lines (codes "VolBlock") g.blocks ++ range_lines (codes "VolAddr") g.addresses
    ++ range_lines (codes "FileIndex") g.indexes ++ range_lines (codes "Stream") g.streams

-- the text that is written for a bootstrap
unfoldable pub canonical : List Group → List ℕ
canonical groups = flat_map group_text groups
