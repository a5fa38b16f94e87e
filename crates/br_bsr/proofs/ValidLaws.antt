-- A bootstrap that is read is valid: its criteria may have their ranges.
use Rattle.std.proofs.Common.{◌≡◌, ◌&&◌, ℕ, Bool, true, false, not, cond, List, [], ◌∷◌, ◌++◌, Result, Ok, Err, refl, ap, sym, ◌∙◌, inl, inr}
use Rattle.std.specs.Prelude.{bytes_eq, nat_lt, length, ⊤}
use Rattle.std.specs.List.{list_all, list_any, slice_split, before_first, after_first}
use Rattle.std.proofs.lemmas.Bool.{and_parts, and_from}
use Rattle.br_model.specs.Answer.{◌>>=◌, refuse_if, some_or}
use Rattle.br_model.specs.Text.{is_empty, is_space}
use Rattle.br_model.specs.Name.{is_volume_name}
use Rattle.br_model.specs.Bootstrap.{Range, Criterion, SessionId, SessionTime, VolFile, VolBlock, VolAddr, FileIndex, Stream, Group, group_on, with_ranges}
use Rattle.br_model.specs.BootstrapText.{Keyword, NamesVolume, Asks, PassedOver, Unsupported, Statement, Nothing, OnVolume, Admits, is_range, is_group, is_comma, is_equals, inside, trimmed, has_closed_quotes, keyword_of, needs_volume, is_unsupported, change_last, with_statement, read_ends, read_item, read_items, read_volume, read_value, read_assignment, read_line, before_comment}
use Rattle.br_model.proofs.AnswerLaws.{bind_ok, refuse_ok, ok_is, chosen}

-- ---- the statement of a line

abbrev pub IsValid : Statement → Type 0
IsValid Nothing = ⊤
IsValid (OnVolume name) = is_volume_name name ≡ true
IsValid (Admits c rs) = list_all (is_range c) rs ≡ true

err_not_ok : {A : Type 0} (x : A) (n : ℕ) → ◌≡◌ {A = Result A ℕ} (Err n) (Ok x) → ⊥
err_not_ok x n e = cc

item_valid : (c : Criterion) (text : List ℕ) (r : Range) → read_item c text ≡ Ok r → is_range c r ≡ true
unfolding read_item
item_valid c text r e =
    let b = bind_ok (read_ends (trimmed text)) (λ (x : Range). cond (is_range c x) (Ok x) (Err 33)) r e in
    elim (chosen (is_range c b.0) (Ok b.0) (Err 33) (Ok r) b.2) [
      | inl h ↦ ap (is_range c) (sym (ok_is b.0 r h.1)) ∙ h.0
      | inr h ↦ absurd (err_not_ok r 33 h.1)
    ]

items_valid : (c : Criterion) (items : List (List ℕ)) (rs : List Range) → read_items c items ≡ Ok rs → list_all (is_range c) rs ≡ true
unfolding read_items
items_valid c [] rs e = ap (list_all (is_range c)) (sym (ok_is [] rs e))
items_valid c (item ∷ items) rs e =
    let first = bind_ok (read_item c item) (λ (r : Range). read_items c items >>= (λ (more : List Range). Ok (r ∷ more))) rs e in
    let rest = bind_ok (read_items c items) (λ (more : List Range). Ok (first.0 ∷ more)) rs first.2 in
    ap (list_all (is_range c)) (sym (ok_is (first.0 ∷ rest.0) rs rest.2))
    ∙ and_from (is_range c first.0) (list_all (is_range c) rest.0) (item_valid c item first.0 first.1) (items_valid c items rest.0 rest.1)

volume_valid : (text name : List ℕ) → read_volume text ≡ Ok name → is_volume_name name ≡ true
unfolding read_volume
volume_valid text name e =
    elim (chosen (is_volume_name text && not (list_any is_space text)) (Ok text)
    (cond (is_volume_name (inside text) && bytes_eq text (34 ∷ inside text ++ 34 ∷ [])) (Ok (inside text)) (Err 33)) (Ok name) e) [
      | inl h ↦ ap is_volume_name (sym (ok_is text name h.1)) ∙ (and_parts (is_volume_name text) (not (list_any is_space text)) h.0).0
      | inr h ↦
          elim (chosen (is_volume_name (inside text) && bytes_eq text (34 ∷ inside text ++ 34 ∷ [])) (Ok (inside text)) (Err 33) (Ok name) h.1) [
            | inl k ↦ ap is_volume_name (sym (ok_is (inside text) name k.1)) ∙ (and_parts (is_volume_name (inside text)) (bytes_eq text (34 ∷ inside text ++ 34 ∷ [])) k.0).0
            | inr k ↦ absurd (err_not_ok name 33 k.1)
          ]
    ]

same_valid : (s t : Statement) → s ≡ t → IsValid s → IsValid t
same_valid s t e h = rw (← e) h

value_valid : (k : Keyword) (text : List ℕ) (s : Statement) → read_value k text ≡ Ok s → IsValid s
unfolding read_value
value_valid NamesVolume text s e =
    let b = bind_ok (read_volume text) (λ (name : List ℕ). Ok (OnVolume name)) s e in
    same_valid (OnVolume b.0) s (ok_is (OnVolume b.0) s b.2) (volume_valid text b.0 b.1)
value_valid (Asks c) text s e =
    let b = bind_ok (read_items c (slice_split is_comma text)) (λ (rs : List Range). Ok (Admits c rs)) s e in
    same_valid (Admits c b.0) s (ok_is (Admits c b.0) s b.2) (items_valid c (slice_split is_comma text) b.0 b.1)
value_valid PassedOver text s e =
    elim (chosen (has_closed_quotes text) (Ok Nothing) (Err 33) (Ok s) e) [
      | inl h ↦ same_valid Nothing s (ok_is Nothing s h.1) tt
      | inr h ↦ absurd (err_not_ok s 33 h.1)
    ]
value_valid Unsupported text s e = absurd (err_not_ok s 32 e)

behind_test : (test : Bool) (n : ℕ) (r : Result Statement ℕ) (s : Statement) → (refuse_if test n >>= (λ (u : Unit {0}). r)) ≡ Ok s → r ≡ Ok s
behind_test test n r s e = (refuse_ok test n (λ (u : Unit {0}). r) s e).1

assignment_valid : (has_volume : Bool) (text : List ℕ) (s : Statement) → read_assignment has_volume text ≡ Ok s → IsValid s
unfolding read_assignment
assignment_valid has_volume text s e =
    let value : Keyword → Result Statement ℕ = λ (k : Keyword). read_value k (trimmed (after_first is_equals text)) in
    let third : Keyword → Result Statement ℕ = λ (k : Keyword). refuse_if (not (list_any is_equals text)) 33 >>= (λ (u : Unit {0}). value k) in
    let second : Keyword → Result Statement ℕ = λ (k : Keyword). refuse_if (needs_volume k && not has_volume) 30 >>= (λ (u : Unit {0}). third k) in
    let first : Keyword → Result Statement ℕ = λ (k : Keyword). refuse_if (is_unsupported k) 32 >>= (λ (u : Unit {0}). second k) in
    let b = bind_ok (some_or (keyword_of (trimmed (before_first is_equals text))) 31) first s e in
    value_valid b.0 (trimmed (after_first is_equals text)) s
    (behind_test (not (list_any is_equals text)) 33 (value b.0) s
    (behind_test (needs_volume b.0 && not has_volume) 30 (third b.0) s (behind_test (is_unsupported b.0) 32 (second b.0) s b.2)))

stated_valid : (has_volume : Bool) (text : List ℕ) (s : Statement) → cond (is_empty text) (Ok Nothing) (read_assignment has_volume text) ≡ Ok s → IsValid s
stated_valid has_volume text s e =
    elim (chosen (is_empty text) (Ok Nothing) (read_assignment has_volume text) (Ok s) e) [
      | inl h ↦ same_valid Nothing s (ok_is Nothing s h.1) tt
      | inr h ↦ assignment_valid has_volume text s h.1
    ]

pub line_valid : (has_volume : Bool) (text : List ℕ) (s : Statement) → read_line has_volume text ≡ Ok s → IsValid s
unfolding read_line
line_valid has_volume text s e =
    stated_valid has_volume (trimmed (before_comment false text)) s
    (behind_test (nat_lt 4096 (length text)) 34
    (cond (is_empty (trimmed (before_comment false text))) (Ok Nothing) (read_assignment has_volume (trimmed (before_comment false text)))) s e)

-- ---- what is kept

all-append : {X : Type 0} (p : X → Bool) (xs ys : List X) → list_all p xs ≡ true → list_all p ys ≡ true → list_all p (xs ++ ys) ≡ true
all-append p [] ys a b = b
all-append p (x ∷ xs) ys a b =
    let parts = and_parts (p x) (list_all p xs) a in
    and_from (p x) (list_all p (xs ++ ys)) parts.0 (all-append p xs ys parts.1 b)

record HasParts (g : Group) : Type 0 where
  volume : is_volume_name g.volume ≡ true
  session_ids : list_all (is_range SessionId) g.session_ids ≡ true
  session_times : list_all (is_range SessionTime) g.session_times ≡ true
  files : list_all (is_range VolFile) g.files ≡ true
  blocks : list_all (is_range VolBlock) g.blocks ≡ true
  addresses : list_all (is_range VolAddr) g.addresses ≡ true
  indexes : list_all (is_range FileIndex) g.indexes ≡ true
  streams : list_all (is_range Stream) g.streams ≡ true

and_eight : (a b c d e f g h : Bool) → a ≡ true → b ≡ true → c ≡ true → d ≡ true → e ≡ true → f ≡ true → g ≡ true → h ≡ true
    → (a && b && c && d && e && f && g && h) ≡ true
and_eight a b c d e f g h ha hb hc hd he hf hg hh = rw (ha, hb, hc, hd, he, hf, hg, hh) refl

group_from : (g : Group) → HasParts g → is_group g ≡ true
unfolding is_group
group_from g p =
    and_eight (is_volume_name g.volume) (list_all (is_range SessionId) g.session_ids) (list_all (is_range SessionTime) g.session_times)
    (list_all (is_range VolFile) g.files) (list_all (is_range VolBlock) g.blocks) (list_all (is_range VolAddr) g.addresses)
    (list_all (is_range FileIndex) g.indexes) (list_all (is_range Stream) g.streams)
    p.volume p.session_ids p.session_times p.files p.blocks p.addresses p.indexes p.streams

parts_eight : (a b c d e f g h : Bool) → (a && b && c && d && e && f && g && h) ≡ true
    → (a ≡ true) × (b ≡ true) × (c ≡ true) × (d ≡ true) × (e ≡ true) × (f ≡ true) × (g ≡ true) × (h ≡ true)
parts_eight true true true true true true true true e = (refl, refl, refl, refl, refl, refl, refl, refl)
parts_eight true true true true true true true false e = absurd cc
parts_eight true true true true true true false h e = absurd cc
parts_eight true true true true true false g h e = absurd cc
parts_eight true true true true false f g h e = absurd cc
parts_eight true true true false i f g h e = absurd cc
parts_eight true true false d i f g h e = absurd cc
parts_eight true false c d i f g h e = absurd cc
parts_eight false b c d i f g h e = absurd cc

parts_of : (g : Group) → is_group g ≡ true → HasParts g
unfolding is_group
parts_of g valid =
    let p =
    parts_eight (is_volume_name g.volume) (list_all (is_range SessionId) g.session_ids) (list_all (is_range SessionTime) g.session_times)
    (list_all (is_range VolFile) g.files) (list_all (is_range VolBlock) g.blocks) (list_all (is_range VolAddr) g.addresses)
    (list_all (is_range FileIndex) g.indexes) (list_all (is_range Stream) g.streams) valid in
    record {
      volume = p.0;
      session_ids = p.1;
      session_times = p.2;
      files = p.3;
      blocks = p.4;
      addresses = p.5;
      indexes = p.6;
      streams = p.7;
    }

with_ranges_valid : (c : Criterion) (rs : List Range) (g : Group) → list_all (is_range c) rs ≡ true → is_group g ≡ true → is_group (with_ranges c rs g) ≡ true
with_ranges_valid SessionId rs g some valid =
    let p = parts_of g valid in
    group_from (with_ranges SessionId rs g) (record { volume = p.volume; session_ids = all-append (is_range SessionId) g.session_ids rs p.session_ids some; session_times = p.session_times; files = p.files; blocks = p.blocks; addresses = p.addresses; indexes = p.indexes; streams = p.streams })
with_ranges_valid SessionTime rs g some valid =
    let p = parts_of g valid in
    group_from (with_ranges SessionTime rs g) (record { volume = p.volume; session_ids = p.session_ids; session_times = all-append (is_range SessionTime) g.session_times rs p.session_times some; files = p.files; blocks = p.blocks; addresses = p.addresses; indexes = p.indexes; streams = p.streams })
with_ranges_valid VolFile rs g some valid =
    let p = parts_of g valid in
    group_from (with_ranges VolFile rs g) (record { volume = p.volume; session_ids = p.session_ids; session_times = p.session_times; files = all-append (is_range VolFile) g.files rs p.files some; blocks = p.blocks; addresses = p.addresses; indexes = p.indexes; streams = p.streams })
with_ranges_valid VolBlock rs g some valid =
    let p = parts_of g valid in
    group_from (with_ranges VolBlock rs g) (record { volume = p.volume; session_ids = p.session_ids; session_times = p.session_times; files = p.files; blocks = all-append (is_range VolBlock) g.blocks rs p.blocks some; addresses = p.addresses; indexes = p.indexes; streams = p.streams })
with_ranges_valid VolAddr rs g some valid =
    let p = parts_of g valid in
    group_from (with_ranges VolAddr rs g) (record { volume = p.volume; session_ids = p.session_ids; session_times = p.session_times; files = p.files; blocks = p.blocks; addresses = all-append (is_range VolAddr) g.addresses rs p.addresses some; indexes = p.indexes; streams = p.streams })
with_ranges_valid FileIndex rs g some valid =
    let p = parts_of g valid in
    group_from (with_ranges FileIndex rs g) (record { volume = p.volume; session_ids = p.session_ids; session_times = p.session_times; files = p.files; blocks = p.blocks; addresses = p.addresses; indexes = all-append (is_range FileIndex) g.indexes rs p.indexes some; streams = p.streams })
with_ranges_valid Stream rs g some valid =
    let p = parts_of g valid in
    group_from (with_ranges Stream rs g) (record { volume = p.volume; session_ids = p.session_ids; session_times = p.session_times; files = p.files; blocks = p.blocks; addresses = p.addresses; indexes = p.indexes; streams = all-append (is_range Stream) g.streams rs p.streams some })

change_last_valid : (f : Group → Group) → ((g : Group) → is_group g ≡ true → is_group (f g) ≡ true) → (groups : List Group) → list_all is_group groups ≡ true
    → list_all is_group (change_last f groups) ≡ true
change_last_valid f keeps [] valid = refl
change_last_valid f keeps (g ∷ []) valid =
    let parts = and_parts (is_group g) true valid in and_from (is_group (f g)) true (keeps g parts.0) refl
change_last_valid f keeps (g ∷ h ∷ more) valid =
    let parts = and_parts (is_group g) (list_all is_group (h ∷ more)) valid in
    and_from (is_group g) (list_all is_group (change_last f (h ∷ more))) parts.0 (change_last_valid f keeps (h ∷ more) parts.1)

new_group_valid : (name : List ℕ) → is_volume_name name ≡ true → is_group (group_on name) ≡ true
new_group_valid name h =
    group_from (group_on name) (record { volume = h; session_ids = refl; session_times = refl; files = refl; blocks = refl; addresses = refl; indexes = refl; streams = refl })

pub statement_valid : (groups : List Group) (s : Statement) → list_all is_group groups ≡ true → IsValid s → list_all is_group (with_statement groups s) ≡ true
statement_valid groups Nothing valid h = valid
statement_valid groups (OnVolume name) valid h =
    all-append is_group groups (group_on name ∷ []) valid (and_from (is_group (group_on name)) true (new_group_valid name h) refl)
statement_valid groups (Admits c rs) valid h = change_last_valid (with_ranges c rs) (λ g k. with_ranges_valid c rs g h k) groups valid
