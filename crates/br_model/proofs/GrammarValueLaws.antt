-- Keywords and values.
use Rattle.std.proofs.lemmas.Bool.{and_from}
use Rattle.std.proofs.Common.{◌≡◌, ℕ, ◌+◌, ◌-◌, ◌<◌, Bool, true, false, not, ◌&&◌, cond, eqb, leb, ltb, List, [], ◌∷◌, ◌++◌, map, length, take, drop, find, Option, Some, None, option_map, Result, Ok, Err, bytes_eq, refl, sym, ap, subst, ◌∙◌, inl, inr, ◌⊎◌, ◌↔◌, arith, length-append}
use Rattle.std.proofs.lemmas.Bool.{le-leb, leb-true, ltb-true, ltb-false, not-true, and_parts, or_left, or_right, or_parts, false_from_ne_true}
use Rattle.std.proofs.lemmas.List.{length-map, take_at}
use Rattle.std.proofs.lemmas.Slice.Eq.{bytes_eq-Decides}
use Rattle.std.specs.Int.{is_in_range}
use Rattle.std.specs.Char.{to_ascii_lowercase}
use Rattle.std.specs.Str.{str_to_ascii_lowercase}
use Rattle.std.specs.List.{list_all, list_any, slice_split}
use Rattle.br_model.specs.Bootstrap.{Criterion}
use Rattle.br_model.specs.BootstrapText.{Keyword, NamesVolume, Asks, PassedOver, Unsupported, keywords, keyword_of, Statement, Nothing, OnVolume, Admits, IsVolumeValue, has_closed_quotes, IsValue, trimmed, is_comma, inside, read_items, read_volume, read_value}
use Rattle.br_model.specs.Name.{dot, dot_dot, is_letter, is_name_byte, is_name, is_volume_name}
use Rattle.br_model.specs.Text.{is_blank, is_space}
use Rattle.br_model.proofs.AnswerLaws.{bind_ok, ok_is, chosen}
use Rattle.br_model.proofs.AttributeLaws.{unlike}
use Rattle.br_model.proofs.GrammarTextLaws.{first_of_all, rest_of_all, neither, Framed, framed_twice, framed_so, framed_alone, framed_trimmed, IsSolid, solid_of, solid_ends, trimmed_framed}
use Rattle.br_model.proofs.GrammarItemLaws.{err_is_not_ok, AreItemsOf, items_solid, items_read}
use Rattle.br_model.proofs.GrammarQuoteLaws.{closed_past}

-- ---- keywords

-- small letters, at least one
abbrev is_small_word : List ℕ → Bool
is_small_word text = leb 1 (length text) && list_all (is_in_range 97 122) text

keywords_small : list_all (λ (k : List ℕ × Keyword). is_small_word k.0) keywords ≡ true
keywords_small = refl

-- what is found passes the test, and what all pass
found : {X : Type 0} (p q : X → Bool) (xs : List X) (y : X) → list_all q xs ≡ true → find p xs ≡ Some y → (p y ≡ true) × (q y ≡ true)
found p q [] y all e = absurd cc
found p q (x ∷ xs) y all e = go (p x) refl e (λ h. found p q xs y (and_parts (q x) (list_all q xs) all).1 h)
  where
    go : (b : Bool) → p x ≡ b → cond b (Some x) (find p xs) ≡ Some y → (find p xs ≡ Some y → (p y ≡ true) × (q y ≡ true)) → (p y ≡ true) × (q y ≡ true)
    go true h f rest = let same : x ≡ y = cc in subst (λ z. (p z ≡ true) × (q z ≡ true)) same (h, (and_parts (q x) (list_all q xs) all).0)
    go false h f rest = rest f

mapped_from : {X Y : Type 0} (f : X → Y) (o : Option X) (y : Y) → option_map f o ≡ Some y → (x : X) × (o ≡ Some x)
mapped_from f None y e = absurd cc
mapped_from f (Some x) y e = (x, refl)

-- a byte that is a small letter in small letters
letter_of : (c : ℕ) → is_in_range 97 122 (to_ascii_lowercase c) ≡ true → is_letter c ≡ true
letter_of c h = go (ltb c 65) refl (ltb c 91) refl h
  where
    go : (a : Bool) → ltb c 65 ≡ a → (b : Bool) → ltb c 91 ≡ b → is_in_range 97 122 (cond a c (cond b (c + 32) c)) ≡ true → is_letter c ≡ true
    go true e b f k = or_right (is_in_range 65 90 c) (is_in_range 97 122 c) k
    go false e true f k =
        or_left (is_in_range 65 90 c) (is_in_range 97 122 c) (and_from (leb 65 c) (leb c 90) (le-leb 65 c (ltb-false c 65 e)) (le-leb c 90 (let lt = ltb-true c 91 f in omega (arith, lt))))
    go false e false f k = or_right (is_in_range 65 90 c) (is_in_range 97 122 c) k

letters_of : (text : List ℕ) → list_all (is_in_range 97 122) (map to_ascii_lowercase text) ≡ true → list_all is_letter text ≡ true
letters_of [] h = refl
letters_of (c ∷ cs) h =
    let p = and_parts (is_in_range 97 122 (to_ascii_lowercase c)) (list_all (is_in_range 97 122) (map to_ascii_lowercase cs)) h in
    and_from (is_letter c) (list_all is_letter cs) (letter_of c p.0) (letters_of cs p.1)

-- a keyword has letters, at least one
pub word_letters : (word : List ℕ) (keyword : Keyword) → keyword_of word ≡ Some keyword → (0 < length word) × (list_all is_letter word ≡ true)
unfolding keyword_of
word_letters word keyword e =
    let m = mapped_from (λ (k : List ℕ × Keyword). k.1) (find (λ (k : List ℕ × Keyword). bytes_eq (str_to_ascii_lowercase word) k.0) keywords) keyword e in
    let f = found (λ (k : List ℕ × Keyword). bytes_eq (str_to_ascii_lowercase word) k.0) (λ (k : List ℕ × Keyword). is_small_word k.0) keywords m.0 keywords_small m.1 in
    let same : str_to_ascii_lowercase word ≡ m.0.0 = (bytes_eq-Decides (str_to_ascii_lowercase word) m.0.0).0 f.0 in
    let small : is_small_word (map to_ascii_lowercase word) ≡ true = subst (λ t. is_small_word t ≡ true) (sym same) f.1 in
    let p = and_parts (leb 1 (length (map to_ascii_lowercase word))) (list_all (is_in_range 97 122) (map to_ascii_lowercase word)) small in
    let some = leb-true 1 (length (map to_ascii_lowercase word)) p.0 in
    (omega (arith, some, length-map word to_ascii_lowercase), letters_of word p.1)

-- ---- values

abbrev pub IsVolumeValueOf : List ℕ → List ℕ → Type 0
IsVolumeValueOf name text = IsVolumeValue text name

pub name_bytes : (name : List ℕ) → is_volume_name name ≡ true → (0 < length name) × (list_all is_name_byte name ≡ true)
unfolding is_volume_name is_name
name_bytes name e =
    let p = and_parts (is_name name && not (bytes_eq name dot)) (not (bytes_eq name dot_dot)) e in
    let q = and_parts (is_name name) (not (bytes_eq name dot)) p.0 in
    let r = and_parts (leb 1 (length name) && leb (length name) 127) (list_all is_name_byte name) q.0 in
    let some = leb-true 1 (length name) (and_parts (leb 1 (length name)) (leb (length name) 127) r.0).0 in
    (some, r.1)

-- a name without a space has no blank
no_blank : (name : List ℕ) → list_all is_name_byte name ≡ true → list_any is_space name ≡ false → list_all (λ b. not (is_blank b)) name ≡ true
no_blank [] h e = refl
no_blank (c ∷ cs) h e =
    let p = or_parts (is_space c) (list_any is_space cs) e in
    and_from (not (is_blank c)) (list_all (λ b. not (is_blank b)) cs) (neither (eqb c 32) (eqb c 9) (ap not p.0) (unlike is_name_byte 9 refl c (first_of_all is_name_byte c cs h)))
    (no_blank cs (rest_of_all is_name_byte c cs h) p.1)

volume_solid : (name text : List ℕ) → IsVolumeValue text name → IsSolid text
volume_solid name text h = go h.1
  where
    bytes : (0 < length name) × (list_all is_name_byte name ≡ true)
    bytes = name_bytes name h.0

    quote : IsSolid (34 ∷ [])
    quote = solid_of (λ b. not (is_blank b)) (λ b k. k) (34 ∷ []) (omega arith) refl

    go : ((text ≡ name) × (list_any is_space name ≡ false)) ⊎ (text ≡ 34 ∷ name ++ 34 ∷ []) → IsSolid text
    go (inl p) = subst IsSolid (sym p.0) (solid_of (λ b. not (is_blank b)) (λ b k. k) name bytes.0 (no_blank name bytes.1 p.1))
    go (inr e) = subst IsSolid (sym e) (solid_ends (34 ∷ []) name (34 ∷ []) quote quote)

inside_is : (name : List ℕ) → inside (34 ∷ name ++ 34 ∷ []) ≡ name
inside_is name =
    let n : length (34 ∷ name ++ 34 ∷ []) - 1 ≡ length (34 ∷ name) = omega (arith, length-append name (34 ∷ [])) in
    ap (drop 1) (ap (λ k. take k (34 ∷ name ++ 34 ∷ [])) n ∙ take_at (34 ∷ name) (34 ∷ []) (length (34 ∷ name)) refl)

-- a volume's name is read if it is between blanks
pub volume_read : (text name : List ℕ) → (read_volume (trimmed text) ≡ Ok name) ↔ Framed (IsVolumeValueOf name) text
unfolding read_volume
volume_read text name =
    (λ e. framed_trimmed (IsVolumeValueOf name) text (there (trimmed text) e), λ f. let h = trimmed_framed (IsVolumeValueOf name) (volume_solid name) text f in back (trimmed text) h.0 h.1)
  where
    bare : List ℕ → Bool
    bare t = is_volume_name t && not (list_any is_space t)

    in_quotes : List ℕ → Bool
    in_quotes t = is_volume_name (inside t) && bytes_eq t (34 ∷ inside t ++ 34 ∷ [])

    quoted_name : List ℕ → Result (List ℕ) ℕ
    quoted_name t = cond (in_quotes t) (Ok (inside t)) (Err 33)

    there : (t : List ℕ) → cond (bare t) (Ok t) (quoted_name t) ≡ Ok name → IsVolumeValue t name
    there t e =
        elim (chosen (bare t) (Ok t) (quoted_name t) (Ok name) e) [
          | inl p ↦
              let q = and_parts (is_volume_name t) (not (list_any is_space t)) p.0 in
              let same : t ≡ name = ok_is t name p.1 in
              (subst (λ n. is_volume_name n ≡ true) same q.0, inl (same, subst (λ n. list_any is_space n ≡ false) same (not-true (list_any is_space t) q.1)))
          | inr p ↦
              elim (chosen (in_quotes t) (Ok (inside t)) (Err 33) (Ok name) p.1) [
                | inl r ↦
                    let q = and_parts (is_volume_name (inside t)) (bytes_eq t (34 ∷ inside t ++ 34 ∷ [])) r.0 in
                    let same : inside t ≡ name = ok_is (inside t) name r.1 in
                    let text_is : t ≡ 34 ∷ inside t ++ 34 ∷ [] = (bytes_eq-Decides t (34 ∷ inside t ++ 34 ∷ [])).0 q.1 in
                    (subst (λ n. is_volume_name n ≡ true) same q.0, inr (text_is ∙ ap (λ n. 34 ∷ n ++ 34 ∷ []) same))
                | inr r ↦ absurd (err_is_not_ok 33 name r.1)
              ]
        ]

    quote_is_no_name : (rest : List ℕ) → is_volume_name (34 ∷ rest) ≡ false
    quote_is_no_name rest = false_from_ne_true (is_volume_name (34 ∷ rest)) (λ e. no_quote (first_of_all is_name_byte 34 rest (name_bytes (34 ∷ rest) e).1))
      where
        no_quote : is_name_byte 34 ≡ true → ⊥
        no_quote e = absurd cc

    back : (t : List ℕ) → is_volume_name name ≡ true → ((t ≡ name) × (list_any is_space name ≡ false)) ⊎ (t ≡ 34 ∷ name ++ 34 ∷ [])
        → cond (bare t) (Ok t) (quoted_name t) ≡ Ok name
    back t h (inl p) = rw (p.0, h, p.1) refl
    back t h (inr e) =
        let other : is_volume_name (34 ∷ name ++ 34 ∷ []) ≡ false = quote_is_no_name (name ++ 34 ∷ []) in
        let in' : inside (34 ∷ name ++ 34 ∷ []) ≡ name = inside_is name in
        let same : bytes_eq (34 ∷ name ++ 34 ∷ []) (34 ∷ name ++ 34 ∷ []) ≡ true = (bytes_eq-Decides (34 ∷ name ++ 34 ∷ []) (34 ∷ name ++ 34 ∷ [])).1 refl in
        rw (e, other, in', h, same) refl

abbrev pub IsValueOf : Keyword → Statement → List ℕ → Type 0
IsValueOf keyword statement text = IsValue keyword text statement

volume_between : (statement : Statement) (text : List ℕ) → Framed (IsValueOf NamesVolume statement) text → read_value NamesVolume (trimmed text) ≡ Ok statement
unfolding read_value
volume_between (OnVolume name) text f = rw ((volume_read text name).1 f) refl
volume_between Nothing text f = absurd f.inside
volume_between (Admits c rs) text f = absurd f.inside

items_value : (c : Criterion) (statement : Statement) (text : List ℕ) → Framed (IsValueOf (Asks c) statement) text → read_value (Asks c) (trimmed text) ≡ Ok statement
unfolding read_value
items_value c (OnVolume name) text f = absurd f.inside
items_value c Nothing text f = absurd f.inside
items_value c (Admits d rs) text f =
    let same : c ≡ d = f.inside.0 in
    let items : Framed (AreItemsOf c rs) text = framed_so (IsValueOf (Asks c) (Admits d rs)) (AreItemsOf c rs) (λ m h. h.1) text f in
    let read : read_items c (slice_split is_comma (trimmed text)) ≡ Ok rs = (items_read c (trimmed text) rs).1 (framed_alone (AreItemsOf c rs) (trimmed text) (trimmed_framed (AreItemsOf c rs) (items_solid c rs) text items)) in
    rw read (ap (λ (k : Criterion). Ok (Admits k rs)) same)

IsClosed : List ℕ → Type 0
IsClosed text = has_closed_quotes text ≡ true

-- blanks round a text close no quote
closed_between : (text : List ℕ) → Framed IsClosed text → has_closed_quotes (trimmed text) ≡ true
unfolding IsClosed
closed_between text f =
    let t = framed_trimmed (λ m. m ≡ trimmed text) text refl in
    let outer : has_closed_quotes text ≡ has_closed_quotes f.middle = ap has_closed_quotes f.joined ∙ closed_past f.front f.middle f.back f.blanks_front f.blanks_back in
    let inner : has_closed_quotes text ≡ has_closed_quotes (trimmed text) = ap has_closed_quotes t.joined ∙ closed_past t.front t.middle t.back t.blanks_front t.blanks_back ∙ ap has_closed_quotes t.inside in
    sym inner ∙ outer ∙ f.inside

passed_over : (statement : Statement) (text : List ℕ) → Framed (IsValueOf PassedOver statement) text → read_value PassedOver (trimmed text) ≡ Ok statement
unfolding read_value IsClosed
passed_over Nothing text f = rw (closed_between text f) refl
passed_over (OnVolume name) text f = absurd f.inside
passed_over (Admits c rs) text f = absurd f.inside

-- a value between blanks is read
pub value_between : (keyword : Keyword) (statement : Statement) (text : List ℕ) → Framed (IsValueOf keyword statement) text → read_value keyword (trimmed text) ≡ Ok statement
value_between NamesVolume statement text f = volume_between statement text f
value_between (Asks c) statement text f = items_value c statement text f
value_between PassedOver statement text f = passed_over statement text f
value_between Unsupported statement text f = absurd f.inside

-- a value that is read is between blanks
between_value : (keyword : Keyword) (statement : Statement) (text : List ℕ) → read_value keyword (trimmed text) ≡ Ok statement → Framed (IsValueOf keyword statement) text
unfolding read_value
between_value NamesVolume statement text e =
    let b = bind_ok (read_volume (trimmed text)) (λ name. Ok (OnVolume name)) statement e in
    subst (λ (s : Statement). Framed (IsValueOf NamesVolume s) text) (ok_is (OnVolume b.0) statement b.2) ((volume_read text b.0).0 b.1)
between_value (Asks c) statement text e =
    let b = bind_ok (read_items c (slice_split is_comma (trimmed text))) (λ rs. Ok (Admits c rs)) statement e in
    let items = framed_twice (AreItemsOf c b.0) text (framed_trimmed (Framed (AreItemsOf c b.0)) text ((items_read c (trimmed text) b.0).0 b.1)) in
    subst (λ (s : Statement). Framed (IsValueOf (Asks c) s) text) (ok_is (Admits c b.0) statement b.2) (framed_so (AreItemsOf c b.0) (IsValueOf (Asks c) (Admits c b.0)) (λ m h. (refl, h)) text items)
between_value PassedOver statement text e =
    elim (chosen (has_closed_quotes (trimmed text)) (Ok Nothing) (Err 33) (Ok statement) e) [
      | inl p ↦ subst (λ (s : Statement). Framed (IsValueOf PassedOver s) text) (ok_is Nothing statement p.1) (framed_trimmed (IsValueOf PassedOver Nothing) text p.0)
      | inr p ↦ absurd (err_is_not_ok 33 statement p.1)
    ]
between_value Unsupported statement text e = absurd (err_is_not_ok 32 statement e)

-- a value is read if it is between blanks
pub value_read : (keyword : Keyword) (text : List ℕ) (statement : Statement) → (read_value keyword (trimmed text) ≡ Ok statement) ↔ Framed (IsValueOf keyword statement) text
value_read keyword text statement = (between_value keyword statement text, value_between keyword statement text)
