-- The canonical text of groups states these groups.
use Rattle.std.proofs.Common.{◌≡◌, ℕ, zero, suc, ◌-◌, ◌^◌, ◌<◌, ◌≤◌, Bool, true, false, ◌&&◌, cond, eqb, leb, get_or, List, [], ◌∷◌, ◌++◌, length, map, Some, refl, sym, ap, ◌∙◌, inl, inr, arith, lit≤, lit<, append_assoc}
use Rattle.std.specs.Prelude.{fold, flat_map, decimal, codes}
use Rattle.std.specs.List.{list_all, slice_split, onto_first, AllZip}
use Rattle.std.specs.Char.{is_ascii_digit}
use Rattle.std.specs.Str.Lines.{lines}
use Rattle.std.proofs.lemmas.Bool.{eqb-true, ne_eqb, leb-true, cases_lt, cond_both, and_parts}
use Rattle.std.proofs.lemmas.Bool.Decides.{nat_tests}
use Rattle.std.proofs.lemmas.List.{length-append, append-nil, get_or_past}
use Rattle.std.proofs.lemmas.List.Sums.{fold-append}
use Rattle.std.proofs.lemmas.List.Splits.{slice_split_at}
use Rattle.std.proofs.lemmas.Fmt.{length-decimal-le}
use Rattle.br_model.specs.Text.{line}
use Rattle.br_model.specs.Name.{is_name_byte, is_name, is_volume_name}
use Rattle.br_model.specs.Bootstrap.{Range, Criterion, SessionId, SessionTime, VolFile, VolBlock, VolAddr, FileIndex, Stream, Group, group_on, with_ranges, range_text, range_lines, group_text, canonical}
use Rattle.br_model.specs.BootstrapText.{Keyword, NamesVolume, Asks, keyword_of, least, greatest, is_range, is_group, Statement, OnVolume, Admits, change_last, with_statement, IsNumber, IsItem, IsValue, IsAssignment, IsLine, IsVolumeFirst, ReadingIsTheGrammar, CanonicalIsText, CanonicalReadsBack}
use Rattle.br_model.proofs.AttributeLaws.{all_join, all_so, decimal_is, decimal_reads}

-- ---- the lines of a text

-- a byte from the space on is neither a line's end nor a carriage return
abbrev is_plain : ℕ → Bool
is_plain c = leb 32 c

abbrev ArePlain : List ℕ → Type 0
ArePlain text = list_all is_plain text ≡ true

-- each byte of a plain text is at least a space
plain_at : (text : List ℕ) (k d : ℕ) → ArePlain text → k < length text → 32 ≤ get_or text k d
plain_at [] k d h lt = absurd (omega arith)
plain_at (c ∷ cs) zero d h lt = leb-true 32 c (and_parts (is_plain c) (list_all is_plain cs) h).0
plain_at (c ∷ cs) (suc k) d h lt = plain_at cs k d (and_parts (is_plain c) (list_all is_plain cs) h).1 (omega arith)

no_carriage_return : (text : List ℕ) (k : ℕ) → ArePlain text → eqb (get_or text k 0) 13 ≡ false
no_carriage_return text k h = ne_eqb (get_or text k 0) 13 (λ e. elim (cases_lt k (length text)) [
  | inl lt ↦ omega (arith, e, plain_at text k 0 h lt)
  | inr past ↦ omega (arith, e, get_or_past text k 0 past)
])

-- any text has a first part, perhaps an empty one
split_has_parts : (text : List ℕ) → (part : List ℕ) × (parts : List (List ℕ)) × (slice_split (λ b. eqb b 10) text ≡ part ∷ parts)
split_has_parts [] = ([], [], refl)
split_has_parts (c ∷ cs) = go (eqb c 10) (slice_split (λ b. eqb b 10) cs)
  where
    go : (b : Bool) (parts : List (List ℕ)) → (first : List ℕ) × (others : List (List ℕ)) × (cond b ([] ∷ parts) (onto_first c parts) ≡ first ∷ others)
    go true parts = ([], parts, refl)
    go false [] = (c ∷ [], [], refl)
    go false (part ∷ parts) = (c ∷ part, parts, refl)

-- a plain text with a line's end after it is the first line
first_line : (text rest : List ℕ) → ArePlain text → lines (text ++ 10 ∷ rest) ≡ text ∷ lines rest
first_line text rest h =
    let cut : slice_split (λ b. eqb b 10) (text ++ 10 ∷ rest) ≡ text ∷ slice_split (λ b. eqb b 10) rest =
    slice_split_at (λ b. eqb b 10) text 10 rest (λ k d lt. ne_eqb (get_or text k d) 10 (λ e. omega (arith, e, plain_at text k d h lt))) refl in
    let parts = split_has_parts rest in
    let kept : eqb (get_or text (length text - 1) 0) 13 ≡ false = no_carriage_return text (length text - 1) h in
    rw (cut, parts.2) (rw kept refl)

-- what the lines of the text say, before any others
record Says (text : List ℕ) (statements : List Statement) : Type 0 where
  before : (rest : List ℕ) (more : List Statement) → AllZip IsLine (lines rest) more → AllZip IsLine (lines (text ++ rest)) (statements ++ more)

says_nothing : Says [] []
says_nothing = record { before = λ rest more h. h }

says_joined : {xs ys : List ℕ} {ss ts : List Statement} → Says xs ss → Says ys ts → Says (xs ++ ys) (ss ++ ts)
says_joined {xs = xs} {ys = ys} {ss = ss} {ts = ts} h g = record {
  before = λ rest more is. rw (append_assoc xs ys rest, append_assoc ss ts more) (h.before (ys ++ rest) (ts ++ more) (g.before rest more is));
}

says_line : (text : List ℕ) (statement : Statement) → ArePlain text → IsLine text statement → Says (line text) (statement ∷ [])
says_line text statement plain is = record {
  before = λ rest more others. rw (append_assoc text (10 ∷ []) rest, first_line text rest plain) (is, others);
}

-- with no other lines after it
says_all : (text : List ℕ) (statements : List Statement) → Says text statements → AllZip IsLine (lines text) statements
says_all text statements h = rw (append-nil text, append-nil statements) at (h.before [] [] tt)

-- ---- a line of a range

abbrev keyword_text : Criterion → List ℕ
keyword_text SessionId = codes "VolSessionId"
keyword_text SessionTime = codes "VolSessionTime"
keyword_text VolFile = codes "VolFile"
keyword_text VolBlock = codes "VolBlock"
keyword_text VolAddr = codes "VolAddr"
keyword_text FileIndex = codes "FileIndex"
keyword_text Stream = codes "Stream"

-- the keyword is read as its criterion
keyword_text_is : (c : Criterion) → keyword_of (keyword_text c) ≡ Some (Asks c)
unfolding keyword_of
keyword_text_is SessionId = refl
keyword_text_is SessionTime = refl
keyword_text_is VolFile = refl
keyword_text_is VolBlock = refl
keyword_text_is VolAddr = refl
keyword_text_is FileIndex = refl
keyword_text_is Stream = refl

keyword_text_plain : (c : Criterion) → ArePlain (keyword_text c)
keyword_text_plain SessionId = refl
keyword_text_plain SessionTime = refl
keyword_text_plain VolFile = refl
keyword_text_plain VolBlock = refl
keyword_text_plain VolAddr = refl
keyword_text_plain FileIndex = refl
keyword_text_plain Stream = refl

-- a keyword, a number and a range are far shorter than the longest line
keyword_text_short : (c : Criterion) → length (keyword_text c) ≤ 14
keyword_text_short SessionId = lit≤ tt
keyword_text_short SessionTime = lit≤ tt
keyword_text_short VolFile = lit≤ tt
keyword_text_short VolBlock = lit≤ tt
keyword_text_short VolAddr = lit≤ tt
keyword_text_short FileIndex = lit≤ tt
keyword_text_short Stream = lit≤ tt

greatest_fits : (c : Criterion) → greatest c < 2 ^ 64
greatest_fits SessionId = lit≤ tt
greatest_fits SessionTime = lit≤ tt
greatest_fits VolFile = lit≤ tt
greatest_fits VolBlock = lit≤ tt
greatest_fits VolAddr = lit≤ tt
greatest_fits FileIndex = lit≤ tt
greatest_fits Stream = lit≤ tt

decimal_short : (n : ℕ) → n < 2 ^ 64 → length (decimal n) ≤ 20
decimal_short n lt = length-decimal-le 20 n (lit< tt) (omega (arith, lt)) lt

decimal_number : (n : ℕ) → n < 2 ^ 64 → IsNumber (decimal n) n
decimal_number n lt = (decimal_short n lt, decimal_reads n lt)

plain_digit : (c : ℕ) → is_ascii_digit c ≡ true → is_plain c ≡ true
plain_digit c h = grind (arith, nat_tests)

decimal_plain : (n : ℕ) → n < 2 ^ 64 → ArePlain (decimal n)
decimal_plain n lt = all_so is_ascii_digit is_plain plain_digit (decimal n) (decimal_is n lt).all

-- no blanks are around the byte between two texts
without_blanks : (c : ℕ) (xs ys : List ℕ) → xs ++ c ∷ ys ≡ xs ++ [] ++ c ∷ [] ++ ys
without_blanks c xs ys = sym (append_assoc xs (c ∷ []) ys) ∙ ap (λ front. front ++ c ∷ [] ++ ys) (sym (append-nil xs))

-- the numbers of a range that a criterion may be given
record AreEnds (c : Criterion) (r : Range) : Type 0 where
  from_least : least c ≤ r.low
  ordered : r.low ≤ r.high
  to_greatest : r.high ≤ greatest c
  low_fits : r.low < 2 ^ 64
  high_fits : r.high < 2 ^ 64

are_ends : (c : Criterion) (r : Range) → is_range c r ≡ true → AreEnds c r
are_ends c r h =
    let within = (and_parts (leb (least c) r.low && leb r.low r.high) (leb r.high (greatest c)) h).0 in
    let to : r.high ≤ greatest c = leb-true r.high (greatest c) (and_parts (leb (least c) r.low && leb r.low r.high) (leb r.high (greatest c)) h).1 in
    let up : r.low ≤ r.high = leb-true r.low r.high (and_parts (leb (least c) r.low) (leb r.low r.high) within).1 in
    record {
      from_least = leb-true (least c) r.low (and_parts (leb (least c) r.low) (leb r.low r.high) within).0;
      ordered = up;
      to_greatest = to;
      low_fits = omega (arith, greatest_fits c);
      high_fits = omega (arith, greatest_fits c);
    }

range_text_plain : (c : Criterion) (r : Range) → AreEnds c r → ArePlain (range_text r)
range_text_plain c r h =
    cond_both (eqb r.low r.high) (decimal r.low) (decimal r.low ++ 45 ∷ decimal r.high) ArePlain (λ e. decimal_plain r.low h.low_fits)
    (λ e. all_join is_plain (decimal r.low) (45 ∷ decimal r.high) (decimal_plain r.low h.low_fits) (decimal_plain r.high h.high_fits))

range_text_short : (c : Criterion) (r : Range) → AreEnds c r → length (range_text r) ≤ 41
range_text_short c r h =
    let low = decimal_short r.low h.low_fits in
    let high = decimal_short r.high h.high_fits in
    cond_both (eqb r.low r.high) (decimal r.low) (decimal r.low ++ 45 ∷ decimal r.high) (λ text. length text ≤ 41) (λ e. omega arith)
    (λ e. omega (arith, length-append (decimal r.low) (45 ∷ decimal r.high)))

-- the text of a range is an item that states the range
range_text_item : (c : Criterion) (r : Range) → AreEnds c r → IsItem c (range_text r) r
range_text_item c r h =
    cond_both (eqb r.low r.high) (decimal r.low) (decimal r.low ++ 45 ∷ decimal r.high) (λ text. IsItem c text r)
    (λ e. record {
      spelled = inl (decimal_number r.low h.low_fits, sym (eqb-true r.low r.high e));
      ordered = h.ordered;
      from_least = h.from_least;
      to_greatest = h.to_greatest;
    })
    (λ e. record {
      spelled = inr (record {
        first = decimal r.low;
        before = [];
        after = [];
        second = decimal r.high;
        joined = without_blanks 45 (decimal r.low) (decimal r.high);
        first_is = decimal_number r.low h.low_fits;
        second_is = decimal_number r.high h.high_fits;
        blanks_before = refl;
        blanks_after = refl;
      });
      ordered = h.ordered;
      from_least = h.from_least;
      to_greatest = h.to_greatest;
    })

-- a keyword, an equals sign and a value
assigns : (word value : List ℕ) (keyword : Keyword) (statement : Statement) → keyword_of word ≡ Some keyword → IsValue keyword value statement → IsAssignment (word ++ 61 ∷ value) statement
assigns word value keyword statement is value_is = record {
  word = word;
  before = [];
  after = [];
  value = value;
  keyword = keyword;
  joined = without_blanks 61 word value;
  word_is = is;
  blanks_before = refl;
  blanks_after = refl;
  value_is = value_is;
}

-- a line of an assignment alone
assignment_line : (text : List ℕ) (statement : Statement) → IsAssignment text statement → length text ≤ 4096 → IsLine text statement
assignment_line text statement h fits = record {
  front = [];
  middle = text;
  back = [];
  comment = [];
  joined = sym (append-nil (text ++ []) ∙ append-nil text);
  blanks_front = refl;
  blanks_back = refl;
  comment_is = tt;
  middle_is = inr h;
  fits = fits;
}

abbrev admitting : Criterion → Range → Statement
admitting c r = Admits c (r ∷ [])

range_line_says : (c : Criterion) (r : Range) → is_range c r ≡ true → Says (line (keyword_text c ++ 61 ∷ range_text r)) (admitting c r ∷ [])
range_line_says c r h =
    let ends = are_ends c r h in
    let text = keyword_text c ++ 61 ∷ range_text r in
    let plain : ArePlain text = all_join is_plain (keyword_text c) (61 ∷ range_text r) (keyword_text_plain c) (range_text_plain c r ends) in
    let fits : length text ≤ 4096 = omega (arith, length-append (keyword_text c) (61 ∷ range_text r), keyword_text_short c, range_text_short c r ends) in
    says_line text (admitting c r) plain (assignment_line text (admitting c r)
    (assigns (keyword_text c) (range_text r) (Asks c) (admitting c r) (keyword_text_is c) (refl, range_text_item c r ends)) fits)

-- there is a line for each range
range_lines_say : (c : Criterion) (rs : List Range) → list_all (is_range c) rs ≡ true → Says (range_lines (keyword_text c) rs) (map (admitting c) rs)
range_lines_say c [] h = says_nothing
range_lines_say c (r ∷ rs) h =
    says_joined (range_line_says c r (and_parts (is_range c r) (list_all (is_range c) rs) h).0) (range_lines_say c rs (and_parts (is_range c r) (list_all (is_range c) rs) h).1)

-- ---- the line of a volume

plain_name_byte : (c : ℕ) → is_name_byte c ≡ true → is_plain c ≡ true
plain_name_byte c h = grind (arith, nat_tests)

volume_name_plain : (name : List ℕ) → is_volume_name name ≡ true → ArePlain name
unfolding is_volume_name is_name
volume_name_plain name h = all_so is_name_byte is_plain plain_name_byte name (and_parts _ _ (and_parts _ _ (and_parts _ _ h).0).0).1

volume_name_short : (name : List ℕ) → is_volume_name name ≡ true → length name ≤ 127
unfolding is_volume_name is_name
volume_name_short name h = leb-true (length name) 127 (and_parts _ _ (and_parts _ _ (and_parts _ _ (and_parts _ _ h).0).0).0).1

volume_line_says : (name : List ℕ) → is_volume_name name ≡ true → Says (line (codes "Volume=\"" ++ name ++ codes "\"")) (OnVolume name ∷ [])
unfolding keyword_of
volume_line_says name h =
    let text = codes "Volume=\"" ++ name ++ codes "\"" in
    let plain : ArePlain text = all_join is_plain (codes "Volume=\"" ++ name) (codes "\"") (all_join is_plain (codes "Volume=\"") name refl (volume_name_plain name h)) refl in
    let fits : length text ≤ 4096 = omega (arith, length-append name (codes "\""), volume_name_short name h) in
    says_line text (OnVolume name) plain (assignment_line text (OnVolume name)
    (assigns (codes "Volume") (34 ∷ name ++ 34 ∷ []) NamesVolume (OnVolume name) refl (h, inr refl)) fits)

-- ---- the text of a group

-- what the lines of a group say
abbrev group_statements : Group → List Statement
group_statements g =
    OnVolume g.volume ∷ [] ++ map (admitting SessionId) g.session_ids ++ map (admitting SessionTime) g.session_times
    ++ map (admitting VolFile) g.files ++ map (admitting VolBlock) g.blocks ++ map (admitting VolAddr) g.addresses
    ++ map (admitting FileIndex) g.indexes ++ map (admitting Stream) g.streams

group_says : (g : Group) → is_group g ≡ true → Says (group_text g) (group_statements g)
unfolding is_group
group_says g h =
    let to_indexes = (and_parts _ _ h).0 in
    let to_addresses = (and_parts _ _ to_indexes).0 in
    let to_blocks = (and_parts _ _ to_addresses).0 in
    let to_files = (and_parts _ _ to_blocks).0 in
    let to_times = (and_parts _ _ to_files).0 in
    let to_ids = (and_parts _ _ to_times).0 in
    says_joined (says_joined (says_joined (says_joined (says_joined (says_joined (says_joined (volume_line_says g.volume (and_parts _ _ to_ids).0)
    (range_lines_say SessionId g.session_ids (and_parts _ _ to_ids).1)) (range_lines_say SessionTime g.session_times (and_parts _ _ to_times).1))
    (range_lines_say VolFile g.files (and_parts _ _ to_files).1)) (range_lines_say VolBlock g.blocks (and_parts _ _ to_blocks).1))
    (range_lines_say VolAddr g.addresses (and_parts _ _ to_addresses).1)) (range_lines_say FileIndex g.indexes (and_parts _ _ to_indexes).1))
    (range_lines_say Stream g.streams (and_parts _ _ h).1)

canonical_says : (groups : List Group) → list_all is_group groups ≡ true → Says (canonical groups) (flat_map group_statements groups)
unfolding canonical
canonical_says [] h = says_nothing
canonical_says (g ∷ gs) h =
    says_joined (group_says g (and_parts (is_group g) (list_all is_group gs) h).0) (canonical_says gs (and_parts (is_group g) (list_all is_group gs) h).1)

-- ---- the groups that the lines state

-- the last group is the one after the others
change_last_pushed : (f : Group → Group) (groups : List Group) (g : Group) → change_last f (groups ++ g ∷ []) ≡ groups ++ f g ∷ []
change_last_pushed f [] g = refl
change_last_pushed f (h ∷ []) g = refl
change_last_pushed f (h ∷ k ∷ more) g = ap (λ xs. h ∷ xs) (change_last_pushed f (k ∷ more) g)

no_ranges_more : (c : Criterion) (g : Group) → with_ranges c [] g ≡ g
no_ranges_more SessionId g = ap (λ rs. record g { session_ids = rs }) (append-nil g.session_ids)
no_ranges_more SessionTime g = ap (λ rs. record g { session_times = rs }) (append-nil g.session_times)
no_ranges_more VolFile g = ap (λ rs. record g { files = rs }) (append-nil g.files)
no_ranges_more VolBlock g = ap (λ rs. record g { blocks = rs }) (append-nil g.blocks)
no_ranges_more VolAddr g = ap (λ rs. record g { addresses = rs }) (append-nil g.addresses)
no_ranges_more FileIndex g = ap (λ rs. record g { indexes = rs }) (append-nil g.indexes)
no_ranges_more Stream g = ap (λ rs. record g { streams = rs }) (append-nil g.streams)

ranges_more : (c : Criterion) (xs ys : List Range) (g : Group) → with_ranges c ys (with_ranges c xs g) ≡ with_ranges c (xs ++ ys) g
ranges_more SessionId xs ys g = ap (λ rs. record g { session_ids = rs }) (append_assoc g.session_ids xs ys)
ranges_more SessionTime xs ys g = ap (λ rs. record g { session_times = rs }) (append_assoc g.session_times xs ys)
ranges_more VolFile xs ys g = ap (λ rs. record g { files = rs }) (append_assoc g.files xs ys)
ranges_more VolBlock xs ys g = ap (λ rs. record g { blocks = rs }) (append_assoc g.blocks xs ys)
ranges_more VolAddr xs ys g = ap (λ rs. record g { addresses = rs }) (append_assoc g.addresses xs ys)
ranges_more FileIndex xs ys g = ap (λ rs. record g { indexes = rs }) (append_assoc g.indexes xs ys)
ranges_more Stream xs ys g = ap (λ rs. record g { streams = rs }) (append_assoc g.streams xs ys)

-- the lines of a criterion add its ranges to the last group
fold_ranges : (c : Criterion) (rs : List Range) (groups : List Group) (g : Group) → fold with_statement (groups ++ g ∷ []) (map (admitting c) rs) ≡ groups ++ with_ranges c rs g ∷ []
fold_ranges c [] groups g = ap (λ h. groups ++ h ∷ []) (sym (no_ranges_more c g))
fold_ranges c (r ∷ rs) groups g =
    ap (λ gs. fold with_statement gs (map (admitting c) rs)) (change_last_pushed (with_ranges c (r ∷ [])) groups g)
    ∙ fold_ranges c rs groups (with_ranges c (r ∷ []) g) ∙ ap (λ h. groups ++ h ∷ []) (ranges_more c (r ∷ []) rs g)

-- the statements add this group to the groups
record Adds (groups : List Group) (statements : List Statement) (g : Group) : Type 0 where
  added : fold with_statement groups statements ≡ groups ++ g ∷ []

adds_ranges : (c : Criterion) (rs : List Range) {groups : List Group} {statements : List Statement} {g : Group}
    → Adds groups statements g → Adds groups (statements ++ map (admitting c) rs) (with_ranges c rs g)
adds_ranges c rs {groups = groups} {statements = ss} {g = g} h = record {
  added =
      fold-append with_statement groups ss (map (admitting c) rs) ∙ ap (λ gs. fold with_statement gs (map (admitting c) rs)) h.added
      ∙ fold_ranges c rs groups g;
}

adds_volume : (groups : List Group) (name : List ℕ) → Adds groups (OnVolume name ∷ []) (group_on name)
adds_volume groups name = record { added = refl }

adds_group : (groups : List Group) (g : Group) → Adds groups (group_statements g) g
adds_group groups g =
    adds_ranges Stream g.streams (adds_ranges FileIndex g.indexes (adds_ranges VolAddr g.addresses (adds_ranges VolBlock g.blocks
    (adds_ranges VolFile g.files (adds_ranges SessionTime g.session_times (adds_ranges SessionId g.session_ids (adds_volume groups g.volume)))))))

-- the statements of groups add these groups, in order
fold_groups : (groups more : List Group) → fold with_statement groups (flat_map group_statements more) ≡ groups ++ more
fold_groups groups [] = sym (append-nil groups)
fold_groups groups (g ∷ gs) =
    fold-append with_statement groups (group_statements g) (flat_map group_statements gs)
    ∙ ap (λ hs. fold with_statement hs (flat_map group_statements gs)) (adds_group groups g).added
    ∙ fold_groups (groups ++ g ∷ []) gs ∙ append_assoc groups (g ∷ []) gs

volume_is_first : (groups : List Group) → IsVolumeFirst (flat_map group_statements groups)
volume_is_first [] = tt
volume_is_first (g ∷ gs) = tt

-- the canonical text of groups that a text can state is a text that states them
pub canonical_is_text_lem : CanonicalIsText
canonical_is_text_lem groups h = record {
  statements = flat_map group_statements groups;
  each = says_all (canonical groups) (flat_map group_statements groups) (canonical_says groups h);
  volume_first = volume_is_first groups;
  groups_are = sym (fold_groups [] groups);
}

-- if reading is the grammar, the canonical text of groups is read as these groups
pub canonical_reads_back : ReadingIsTheGrammar → CanonicalReadsBack
canonical_reads_back grammar groups h = (grammar (canonical groups) groups).1 (canonical_is_text_lem groups h)
