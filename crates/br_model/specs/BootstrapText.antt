-- Bootstrap text: its grammar, and reading it with the first refused line.
use Rattle.std.specs.Prelude.{◌≡◌, ◌↔◌, ℕ, ◌+◌, ◌-◌, ◌%◌, ◌^◌, ◌≤◌, ◌⊎◌, Bool, true, false, not, ◌&&◌, nat_lt, nat_le, ◌==◌, if◌then◌else◌, List, [], ◌∷◌, ◌++◌, length, take, drop, fold, find, count_by, bytes_eq, codes, Option, Some, option_map, Result, Ok, Err, ⊤}
use Rattle.std.specs.List.{list_all, list_any, slice_split, before_first, after_first, AllZip}
use Rattle.std.specs.Str.{str_to_ascii_lowercase}
use Rattle.std.specs.Str.Lines.{lines}
use Rattle.br_model.specs.Answer.{◌>>=◌, refuse_if, refused_as, some_or}
use Rattle.br_model.specs.Text.{is_empty, is_blank, is_space, trim_by, decimal_value}
use Rattle.br_model.specs.Name.{is_volume_name}
use Rattle.br_model.specs.Bootstrap.{Range, Criterion, SessionId, SessionTime, VolFile, VolBlock, VolAddr, FileIndex, Stream, Group, group_on, with_ranges, canonical}

-- ---- keywords

-- what a keyword states: a volume, ranges of a criterion, something passed over or unsupported
pub data Keyword : Type 0 where
  NamesVolume : Keyword
  Asks : Criterion → Keyword
  PassedOver : Keyword
  Unsupported : Keyword

-- the keywords in lower case
abbrev pub keywords : List (List ℕ × Keyword)
keywords =
    (codes "volume", NamesVolume)
    ∷ (codes "volsessionid", Asks SessionId) ∷ (codes "volsessiontime", Asks SessionTime)
    ∷ (codes "volfile", Asks VolFile) ∷ (codes "volblock", Asks VolBlock) ∷ (codes "voladdr", Asks VolAddr)
    ∷ (codes "fileindex", Asks FileIndex) ∷ (codes "stream", Asks Stream)
    ∷ (codes "storage", PassedOver) ∷ (codes "mediatype", PassedOver) ∷ (codes "device", PassedOver)
    ∷ (codes "slot", PassedOver) ∷ (codes "count", PassedOver)
    ∷ (codes "client", Unsupported) ∷ (codes "job", Unsupported) ∷ (codes "jobid", Unsupported)
    ∷ (codes "jobtype", Unsupported) ∷ (codes "joblevel", Unsupported) ∷ (codes "fileregex", Unsupported) ∷ []

-- the keyword that a word spells, in upper or lower case
unfoldable pub keyword_of : List ℕ → Option Keyword
keyword_of word =
    option_map (λ (k : List ℕ × Keyword). k.1) (find (λ (k : List ℕ × Keyword). bytes_eq (str_to_ascii_lowercase word) k.0) keywords)

-- the least number that a criterion allows
abbrev pub least : Criterion → ℕ
least FileIndex = 1
least Stream = 1
least _ = 0

-- the greatest number that a criterion allows
abbrev pub greatest : Criterion → ℕ
greatest FileIndex = 2 ^ 31 - 1
greatest Stream = 2 ^ 31 - 1
greatest VolAddr = 2 ^ 63 - 1
greatest _ = 2 ^ 32 - 1

-- a range that a criterion allows
abbrev pub is_range : Criterion → Range → Bool
is_range c r = nat_le (least c) r.low && nat_le r.low r.high && nat_le r.high (greatest c)

-- a group that a text can state
unfoldable pub is_group : Group → Bool
is_group g =
    is_volume_name g.volume && list_all (is_range SessionId) g.session_ids && list_all (is_range SessionTime) g.session_times
    && list_all (is_range VolFile) g.files && list_all (is_range VolBlock) g.blocks && list_all (is_range VolAddr) g.addresses
    && list_all (is_range FileIndex) g.indexes && list_all (is_range Stream) g.streams

-- what a line states: nothing, the volume of a new group, or ranges of a criterion
pub data Statement : Type 0 where
  Nothing : Statement
  OnVolume : List ℕ → Statement
  Admits : Criterion → List Range → Statement

-- the groups with the last one changed
abbrev pub change_last : (Group → Group) → List Group → List Group
change_last f [] = []
change_last f (g ∷ []) = f g ∷ []
change_last f (g ∷ h ∷ more) = g ∷ change_last f (h ∷ more)

-- the groups after a statement: a volume adds a group at the end, and ranges go to the last group
abbrev pub with_statement : List Group → Statement → List Group
with_statement groups Nothing = groups
with_statement groups (OnVolume name) = groups ++ group_on name ∷ []
with_statement groups (Admits c rs) = change_last (with_ranges c rs) groups

-- ---- the grammar

-- the text is empty or only blanks
abbrev pub AreBlanks : List ℕ → Type 0
AreBlanks text = list_all is_blank text ≡ true

-- 1 to 20 decimal digits
abbrev pub IsNumber : List ℕ → ℕ → Type 0
IsNumber text n = (length text ≤ 20) × (decimal_value text ≡ Some n)

-- two numbers with a dash between them, which may have blanks around it
pub record ArePair (text : List ℕ) (low high : ℕ) : Type 0 where
  pub first : List ℕ
  pub before : List ℕ
  pub after : List ℕ
  pub second : List ℕ
  pub joined : text ≡ first ++ before ++ 45 ∷ after ++ second
  pub first_is : IsNumber first low
  pub second_is : IsNumber second high
  pub blanks_before : AreBlanks before
  pub blanks_after : AreBlanks after

-- one number, or two of which the first is at most the second, within the criterion's limits
pub record IsItem (c : Criterion) (text : List ℕ) (r : Range) : Type 0 where
  pub spelled : (IsNumber text r.low × (r.high ≡ r.low)) ⊎ ArePair text r.low r.high
  pub ordered : r.low ≤ r.high
  pub from_least : least c ≤ r.low
  pub to_greatest : r.high ≤ greatest c

-- items with commas between them, which may have blanks around them
abbrev pub AreItems : Criterion → List ℕ → List Range → Type 0
AreItems c text [] = ⊥
AreItems c text (r ∷ []) = IsItem c text r
AreItems c text (r ∷ s ∷ more) =
    (item : List ℕ) × (before : List ℕ) × (after : List ℕ) × (others : List ℕ)
    × (text ≡ item ++ before ++ 44 ∷ after ++ others) × AreBlanks before × AreBlanks after
    × IsItem c item r × AreItems c others (s ∷ more)

-- a volume's name in quotes, or one without a space
abbrev pub IsVolumeValue : List ℕ → List ℕ → Type 0
IsVolumeValue text name =
    (is_volume_name name ≡ true)
    × (((text ≡ name) × (list_any is_space name ≡ false)) ⊎ (text ≡ 34 ∷ name ++ 34 ∷ []))

-- each quote that is opened is closed
abbrev pub has_closed_quotes : List ℕ → Bool
has_closed_quotes text = count_by (λ c. c == 34) text % 2 == 0

-- what a value states: a volume its name, a criterion its items, a keyword that is passed over
-- nothing; an unsupported keyword has no value
abbrev pub IsValue : Keyword → List ℕ → Statement → Type 0
IsValue NamesVolume text (OnVolume name) = IsVolumeValue text name
IsValue (Asks c) text (Admits d rs) = (c ≡ d) × AreItems c text rs
IsValue PassedOver text Nothing = has_closed_quotes text ≡ true
IsValue _ _ _ = ⊥

-- a keyword, an equals sign that may have blanks around it, and a value
pub record IsAssignment (text : List ℕ) (statement : Statement) : Type 0 where
  pub word : List ℕ
  pub before : List ℕ
  pub after : List ℕ
  pub value : List ℕ
  pub keyword : Keyword
  pub joined : text ≡ word ++ before ++ 61 ∷ after ++ value
  pub word_is : keyword_of word ≡ Some keyword
  pub blanks_before : AreBlanks before
  pub blanks_after : AreBlanks after
  pub value_is : IsValue keyword value statement

-- nothing, or a number sign and any bytes after it
abbrev pub IsComment : List ℕ → Type 0
IsComment [] = ⊤
IsComment (c ∷ cs) = c ≡ 35

-- blanks, then nothing or an assignment, blanks, then nothing or a comment; at most 4096 bytes
pub record IsLine (text : List ℕ) (statement : Statement) : Type 0 where
  pub front : List ℕ
  pub middle : List ℕ
  pub back : List ℕ
  pub comment : List ℕ
  pub joined : text ≡ front ++ middle ++ back ++ comment
  pub blanks_front : AreBlanks front
  pub blanks_back : AreBlanks back
  pub comment_is : IsComment comment
  pub middle_is : ((middle ≡ []) × (statement ≡ Nothing)) ⊎ IsAssignment middle statement
  pub fits : length text ≤ 4096

-- no criterion comes before the first volume
abbrev pub IsVolumeFirst : List Statement → Type 0
IsVolumeFirst [] = ⊤
IsVolumeFirst (Nothing ∷ more) = IsVolumeFirst more
IsVolumeFirst (OnVolume name ∷ more) = ⊤
IsVolumeFirst (Admits c rs ∷ more) = ⊥

-- each line of the text is in the grammar, and these are the groups that the lines state
pub record IsBootstrapText (text : List ℕ) (groups : List Group) : Type 0 where
  pub statements : List Statement
  pub each : AllZip IsLine (lines text) statements
  pub volume_first : IsVolumeFirst statements
  pub groups_are : groups ≡ fold with_statement [] statements

-- ---- reading, with the first refused line

-- the text before the first number sign outside quotes
unfoldable pub before_comment : Bool → List ℕ → List ℕ
before_comment quoted [] = []
before_comment quoted (c ∷ cs) = if c == 35 && not quoted then [] else c ∷ before_comment (if c == 34 then not quoted else quoted) cs

-- the text without the blanks at its two ends
abbrev pub trimmed : List ℕ → List ℕ
trimmed text = trim_by is_blank text

-- a dash is 45
abbrev pub is_dash : ℕ → Bool
is_dash c = c == 45

-- a comma is 44
abbrev pub is_comma : ℕ → Bool
is_comma c = c == 44

-- an equals sign is 61
abbrev pub is_equals : ℕ → Bool
is_equals c = c == 61

-- the number of 1 to 20 decimal digits, or 33
unfoldable pub read_digits : List ℕ → Result ℕ ℕ
read_digits text = if nat_le (length text) 20 then some_or (decimal_value text) 33 else Err 33

-- the numbers before and after the first dash, without blanks at their ends, or the one number if
-- there is no dash; or 33
unfoldable pub read_ends : List ℕ → Result Range ℕ
read_ends text = do
  low ← read_digits (trimmed (before_first is_dash text))
  high ← (if list_any is_dash text then read_digits (trimmed (after_first is_dash text)) else Ok low)
  Ok (record { low = low; high = high })

-- the range of an item, or 33 if the criterion does not allow it
unfoldable pub read_item : Criterion → List ℕ → Result Range ℕ
read_item c text = do
  r ← read_ends (trimmed text)
  if is_range c r then Ok r else Err 33

-- the ranges of some items in order, or the first refusal
unfoldable pub read_items : Criterion → List (List ℕ) → Result (List Range) ℕ
read_items c [] = Ok []
read_items c (item ∷ items) = do
  r ← read_item c item
  rs ← read_items c items
  Ok (r ∷ rs)

-- the text between the first byte and the last
abbrev pub inside : List ℕ → List ℕ
inside text = drop 1 (take (length text - 1) text)

-- the name of a volume, in quotes, or without quotes if it has no space; else 33
unfoldable pub read_volume : List ℕ → Result (List ℕ) ℕ
read_volume text =
    if is_volume_name text && not (list_any is_space text) then Ok text
    else if is_volume_name (inside text) && bytes_eq text (34 ∷ inside text ++ 34 ∷ []) then Ok (inside text)
    else Err 33

-- what a value states, or its refusal: 32 for an unsupported keyword, 33 for any other fault
unfoldable pub read_value : Keyword → List ℕ → Result Statement ℕ
read_value NamesVolume text = do
  name ← read_volume text
  Ok (OnVolume name)
read_value (Asks c) text = do
  rs ← read_items c (slice_split is_comma text)
  Ok (Admits c rs)
read_value PassedOver text = if has_closed_quotes text then Ok Nothing else Err 33
read_value Unsupported text = Err 32

-- whether a keyword must come after a volume
abbrev pub needs_volume : Keyword → Bool
needs_volume (Asks c) = true
needs_volume _ = false

-- whether a keyword is unsupported
abbrev pub is_unsupported : Keyword → Bool
is_unsupported Unsupported = true
is_unsupported _ = false

-- an assignment: 31 unknown keyword, 32 unsupported, 30 criterion before any volume, 33 bad value
unfoldable pub read_assignment : Bool → List ℕ → Result Statement ℕ
read_assignment has_volume text = do
  keyword ← some_or (keyword_of (trimmed (before_first is_equals text))) 31
  _ ← refuse_if (is_unsupported keyword) 32
  _ ← refuse_if (needs_volume keyword && not has_volume) 30
  _ ← refuse_if (not (list_any is_equals text)) 33
  read_value keyword (trimmed (after_first is_equals text))

-- a line, after a volume or not; 34 if it is too long
unfoldable pub read_line : Bool → List ℕ → Result Statement ℕ
read_line has_volume text = do
  _ ← refuse_if (nat_lt 4096 (length text)) 34
  (if is_empty stated then Ok Nothing else read_assignment has_volume stated)
  where
    stated : List ℕ
    stated = trimmed (before_comment false text)

-- why a bootstrap was refused: the number of the refusal, and the line, counted from 1
pub record LineFault : Type 0 where
  pub number : ℕ
  pub line : ℕ

-- the groups so far and those of these lines, the first of which has this number
unfoldable pub read_lines : ℕ → List Group → List (List ℕ) → Result (List Group) LineFault
read_lines n groups [] = Ok groups
read_lines n groups (text ∷ more) = do
  statement ← refused_as (λ number. record { number = number; line = n }) (read_line (not (is_empty groups)) text)
  read_lines (n + 1) (with_statement groups statement) more

-- the groups that a text states, or its first refused line
unfoldable pub read_bootstrap : List ℕ → Result (List Group) LineFault
read_bootstrap text = read_lines 1 [] (lines text)

-- ---- laws

-- a text states groups exactly if it is read as them
abbrev pub ReadingIsTheGrammar : Type 0
ReadingIsTheGrammar = (text : List ℕ) (groups : List Group) → (read_bootstrap text ≡ Ok groups) ↔ IsBootstrapText text groups

-- groups that a text can state are stated by their canonical text
abbrev pub CanonicalIsText : Type 0
CanonicalIsText = (groups : List Group) → list_all is_group groups ≡ true → IsBootstrapText (canonical groups) groups

-- groups that a text can state are read back from their canonical text
abbrev pub CanonicalReadsBack : Type 0
CanonicalReadsBack = (groups : List Group) → list_all is_group groups ≡ true → read_bootstrap (canonical groups) ≡ Ok groups
