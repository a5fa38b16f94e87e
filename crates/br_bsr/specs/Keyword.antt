-- Keywords as the model has them.
use Rattle.std.specs.Prelude.{ℕ, Bool, if◌then◌else◌, List, [], ◌∷◌, bytes_eq, codes, Option, Some, None}
use Rattle.std.specs.List.{list_any}
use Rattle.std.specs.Str.{str_to_ascii_lowercase}
use Rattle.br_model.specs.BootstrapText as model
use Rattle.br_bsr.specs.declared.criterion.Criterion.{Criterion}
use Rattle.br_bsr.specs.declared.criterion.Criterion.TheVariants.{SessionId, SessionTime, VolFile, VolBlock, VolAddr, FileIndex, Stream}
use Rattle.br_bsr.specs.declared.keyword.Keyword.{Keyword}
use Rattle.br_bsr.specs.declared.keyword.Keyword.TheVariants.{Volume, Asks, PassedOver, Unsupported}
use Rattle.br_bsr.specs.Statement.{criterion_of}

abbrev pub keyword_view : Keyword → model.Keyword
keyword_view Volume = model.NamesVolume
keyword_view (Asks c) = model.Asks (criterion_of c)
keyword_view PassedOver = model.PassedOver
keyword_view Unsupported = model.Unsupported

-- the word is this name, in letters of either case
abbrev pub is_name_of : List ℕ → List ℕ → Bool
is_name_of word name = bytes_eq (str_to_ascii_lowercase word) name

-- the word is one of these names
abbrev pub is_among : List (List ℕ) → List ℕ → Bool
is_among names word = list_any (is_name_of word) names

abbrev pub criterion_named : List ℕ → Option Criterion
criterion_named word =
    if is_name_of word (codes "volsessionid") then Some SessionId
    else if is_name_of word (codes "volsessiontime") then Some SessionTime
    else if is_name_of word (codes "volfile") then Some VolFile
    else if is_name_of word (codes "volblock") then Some VolBlock
    else if is_name_of word (codes "voladdr") then Some VolAddr
    else if is_name_of word (codes "fileindex") then Some FileIndex
    else if is_name_of word (codes "stream") then Some Stream
    else None

abbrev pub passed_over : List (List ℕ)
passed_over = codes "storage" ∷ codes "mediatype" ∷ codes "device" ∷ codes "slot" ∷ codes "count" ∷ []

abbrev pub unsupported : List (List ℕ)
unsupported = codes "client" ∷ codes "job" ∷ codes "jobid" ∷ codes "jobtype" ∷ codes "joblevel" ∷ codes "fileregex" ∷ []
