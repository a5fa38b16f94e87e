-- The keyword of a word.
use Rattle.std.proofs.Common.{◌≡◌, ◌||◌, ℕ, Bool, true, false, cond, List, [], ◌∷◌, ◌++◌, Option, Some, None, map, option_map, codes, refl, ap, ◌∙◌}
use Rattle.std.specs.List.{find, list_any}
use Rattle.std.specs.Option.{option_or}
use Rattle.br_model.specs.BootstrapText.{Keyword, NamesVolume, Asks, PassedOver, Unsupported, keywords, keyword_of}
use Rattle.br_bsr.specs.declared.criterion.Criterion.{Criterion}
use Rattle.br_bsr.specs.declared.criterion.Criterion.TheVariants.{SessionId, SessionTime, VolFile, VolBlock, VolAddr, FileIndex, Stream}
use Rattle.br_bsr.specs.Statement.{criterion_of}
use Rattle.br_bsr.specs.Keyword.{is_name_of, is_among, criterion_named, passed_over, unsupported}

-- the value of the first name that passes
abbrev value_in : {K : Type 0} → (List ℕ → Bool) → List (List ℕ × K) → Option K
value_in test [] = None
value_in test (x ∷ xs) = cond (test x.0) (Some x.1) (value_in test xs)

found_first : {K : Type 0} (b : Bool) (x : List ℕ × K) (rest : Option (List ℕ × K))
    → option_map (λ (k : List ℕ × K). k.1) (cond b (Some x) rest) ≡ cond b (Some x.1) (option_map (λ (k : List ℕ × K). k.1) rest)
found_first true x rest = refl
found_first false x rest = refl

find_is_value : {K : Type 0} (test : List ℕ → Bool) (xs : List (List ℕ × K))
    → option_map (λ (k : List ℕ × K). k.1) (find (λ (k : List ℕ × K). test k.0) xs) ≡ value_in test xs
find_is_value test [] = refl
find_is_value test (x ∷ xs) =
    found_first (test x.0) x (find (λ k. test k.0) xs) ∙ ap (cond (test x.0) (Some x.1)) (find_is_value test xs)

abbrev ask : Criterion → Keyword
ask c = Asks (criterion_of c)

abbrev asked : List ℕ × Criterion → List ℕ × Keyword
asked x = (x.0, ask x.1)

asked_first : (b : Bool) (c : Criterion) (found : Option Criterion) (rest : Option Keyword)
    → cond b (Some (ask c)) (option_or (option_map ask found) rest) ≡ option_or (option_map ask (cond b (Some c) found)) rest
asked_first true c found rest = refl
asked_first false c found rest = refl

values_asked : (test : List ℕ → Bool) (cs : List (List ℕ × Criterion)) (rest : List (List ℕ × Keyword))
    → value_in test (map asked cs ++ rest) ≡ option_or (option_map ask (value_in test cs)) (value_in test rest)
values_asked test [] rest = refl
values_asked test (x ∷ cs) rest =
    ap (cond (test x.0) (Some (ask x.1))) (values_asked test cs rest) ∙ asked_first (test x.0) x.1 (value_in test cs) (value_in test rest)

same_first : (b d : Bool) (k : Keyword) (rest : Option Keyword) → cond b (Some k) (cond d (Some k) rest) ≡ cond (b || d) (Some k) rest
same_first true d k rest = refl
same_first false d k rest = refl

abbrev all_of : Keyword → List ℕ → List ℕ × Keyword
all_of k word = (word, k)

same_values : (test : List ℕ → Bool) (k : Keyword) (names : List (List ℕ)) (rest : List (List ℕ × Keyword))
    → value_in test (map (all_of k) names ++ rest) ≡ cond (list_any test names) (Some k) (value_in test rest)
same_values test k [] rest = refl
same_values test k (x ∷ names) rest =
    ap (cond (test x) (Some k)) (same_values test k names rest) ∙ same_first (test x) (list_any test names) k (value_in test rest)

abbrev criteria : List (List ℕ × Criterion)
criteria =
    (codes "volsessionid", SessionId) ∷ (codes "volsessiontime", SessionTime) ∷ (codes "volfile", VolFile)
    ∷ (codes "volblock", VolBlock) ∷ (codes "voladdr", VolAddr) ∷ (codes "fileindex", FileIndex) ∷ (codes "stream", Stream) ∷ []

abbrev others : List (List ℕ × Keyword)
others = map (all_of PassedOver) passed_over ++ (map (all_of Unsupported) unsupported ++ [])

abbrev parts : Bool → Option Criterion → Bool → Bool → Option Keyword
parts is_volume criterion is_passed_over is_unsupported =
    cond is_volume (Some NamesVolume)
    (option_or (option_map ask criterion) (cond is_passed_over (Some PassedOver) (cond is_unsupported (Some Unsupported) None)))

abbrev pub is_volume_word : List ℕ → Bool
is_volume_word word = is_name_of word (codes "volume")

-- a word by its kind: the volume, a criterion, a word that is ignored, one that is not supported
keyword_parts : (word : List ℕ) → keyword_of word ≡ parts (is_volume_word word) (criterion_named word) (is_among passed_over word) (is_among unsupported word)
unfolding keyword_of
keyword_parts word =
    find_is_value (is_name_of word) keywords
    ∙ ap (cond (is_volume_word word) (Some NamesVolume))
    (values_asked (is_name_of word) criteria others
    ∙ ap (option_or (option_map ask (criterion_named word)))
    (same_values (is_name_of word) PassedOver passed_over (map (all_of Unsupported) unsupported ++ [])
    ∙ ap (cond (is_among passed_over word) (Some PassedOver)) (same_values (is_name_of word) Unsupported unsupported [])
    )
    )

parts_are : (word : List ℕ) (v p u : Bool) (c : Option Criterion) → is_volume_word word ≡ v → criterion_named word ≡ c
    → is_among passed_over word ≡ p → is_among unsupported word ≡ u → keyword_of word ≡ parts v c p u
parts_are word v p u c ev ec ep eu =
    keyword_parts word
    ∙ ap (λ b. parts b (criterion_named word) (is_among passed_over word) (is_among unsupported word)) ev
    ∙ ap (λ found. parts v found (is_among passed_over word) (is_among unsupported word)) ec
    ∙ ap (λ b. parts v c b (is_among unsupported word)) ep ∙ ap (parts v c p) eu

pub volume_word : (word : List ℕ) → is_volume_word word ≡ true → keyword_of word ≡ Some NamesVolume
volume_word word e = parts_are word true (is_among passed_over word) (is_among unsupported word) (criterion_named word) e refl refl refl

pub criterion_word : (word : List ℕ) (c : Criterion) → is_volume_word word ≡ false → criterion_named word ≡ Some c → keyword_of word ≡ Some (Asks (criterion_of c))
criterion_word word c e named = parts_are word false (is_among passed_over word) (is_among unsupported word) (Some c) e named refl refl

pub passed_word : (word : List ℕ) → is_volume_word word ≡ false → criterion_named word ≡ None → is_among passed_over word ≡ true → keyword_of word ≡ Some PassedOver
passed_word word e named among = parts_are word false true (is_among unsupported word) None e named among refl

pub other_word : (word : List ℕ) (u : Bool) → is_volume_word word ≡ false → criterion_named word ≡ None → is_among passed_over word ≡ false
    → is_among unsupported word ≡ u → keyword_of word ≡ cond u (Some Unsupported) None
other_word word u e named among left = parts_are word false false u None e named among left
