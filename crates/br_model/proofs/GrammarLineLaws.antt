-- Assignments and lines.
use Rattle.std.proofs.lemmas.Bool.{and_from}
use Rattle.std.proofs.Common.{◌≡◌, ℕ, ◌≤◌, Bool, true, false, not, ◌&&◌, cond, eqb, ltb, List, [], ◌∷◌, ◌++◌, length, Some, Result, Ok, refl, sym, ap, subst, ◌∙◌, inl, inr, ◌⊎◌, ◌↔◌, arith, append_assoc, append-nil}
use Rattle.std.proofs.lemmas.Bool.{both_ways, ltb-false, le-ltb, eqb-true, ne_eqb, not-true, not-false}
use Rattle.std.proofs.lemmas.List.{nil_from_length}
use Rattle.std.specs.List.{list_all, list_any, before_first, after_first}
use Rattle.br_model.specs.Answer.{◌>>=◌, some_or, refuse_if}
use Rattle.br_model.specs.BootstrapText.{Keyword, NamesVolume, Asks, PassedOver, Unsupported, keyword_of, Statement, Nothing, OnVolume, Admits, AreBlanks, IsValue, IsAssignment, IsComment, IsLine, before_comment, trimmed, is_equals, read_value, needs_volume, is_unsupported, read_assignment, read_line}
use Rattle.br_model.specs.Name.{is_letter, is_name_byte, is_volume_name}
use Rattle.br_model.specs.Text.{is_empty, is_blank, is_space}
use Rattle.br_model.proofs.AnswerLaws.{bind_ok, refuse_ok, ok_is, chosen}
use Rattle.br_model.proofs.AttributeLaws.{Lacks, all_join, unlike, before_is}
use Rattle.br_model.proofs.GrammarTextLaws.{neither, Framed, framed_twice, framed_so, framed_alone, framed_trimmed, IsSolid, solid_of, starts_with, trimmed_past, trimmed_is, trimmed_nothing, trimmed_behind, Parted, framed_parted, CutAt, none_or_cut, after_is, any_is, any_none, lacks_join, lacks_of}
use Rattle.br_model.proofs.GrammarItemLaws.{some_is, is_items_byte, items_bytes}
use Rattle.br_model.proofs.GrammarQuoteLaws.{closed_is, quoted_after, is_quiet, before_quiet, quiet_of, blanks_quiet, blanks_before, closed_before, comment_off}
use Rattle.br_model.proofs.GrammarValueLaws.{word_letters, name_bytes, IsValueOf, value_between, value_read}

-- ---- assignments

-- ranges follow a volume
abbrev pub MayStand : Bool → Statement → Type 0
MayStand has_volume Nothing = Unit {0}
MayStand has_volume (OnVolume name) = Unit {0}
MayStand has_volume (Admits c rs) = has_volume ≡ true

abbrev pub IsAssignmentOf : Statement → List ℕ → Type 0
IsAssignmentOf statement text = IsAssignment text statement

abbrev IsKeyword : Keyword → List ℕ → Type 0
IsKeyword keyword text = keyword_of text ≡ Some keyword

assignment_from : (keyword : Keyword) (statement : Statement) (text : List ℕ) → Parted 61 (IsKeyword keyword) (IsValueOf keyword statement) text → IsAssignment text statement
assignment_from keyword statement text p = record {
  word = p.first;
  before = p.before;
  after = p.after;
  value = p.second;
  keyword = keyword;
  joined = p.joined;
  word_is = p.first_is;
  blanks_before = p.blanks_before;
  blanks_after = p.blanks_after;
  value_is = p.second_is;
}

letters_plain : (c : ℕ) → is_letter c ≡ true → not (is_blank c) ≡ true
letters_plain c h = neither (eqb c 32) (eqb c 9) (unlike is_letter 32 refl c h) (unlike is_letter 9 refl c h)

keyword_solid : (keyword : Keyword) (word : List ℕ) → IsKeyword keyword word → IsSolid word
keyword_solid keyword word e = let w = word_letters word keyword e in solid_of is_letter letters_plain word w.0 w.1

-- the statement of a keyword that needs a volume must come after a volume
stands : (has_volume : Bool) (keyword : Keyword) (statement : Statement) (value : List ℕ) → (needs_volume keyword && not has_volume) ≡ false → IsValue keyword value statement → MayStand has_volume statement
stands has_volume keyword Nothing value e h = tt
stands has_volume keyword (OnVolume name) value e h = tt
stands has_volume (Asks c) (Admits d rs) value e h = not-false has_volume e
stands has_volume NamesVolume (Admits d rs) value e h = absurd h
stands has_volume PassedOver (Admits d rs) value e h = absurd h
stands has_volume Unsupported (Admits d rs) value e h = absurd h

-- a statement that is allowed is not refused for lack of a volume
not_needed : (has_volume : Bool) (keyword : Keyword) (statement : Statement) (value : List ℕ) → MayStand has_volume statement → IsValue keyword value statement → (needs_volume keyword && not has_volume) ≡ false
not_needed has_volume NamesVolume statement value m h = refl
not_needed has_volume PassedOver statement value m h = refl
not_needed has_volume Unsupported statement value m h = refl
not_needed has_volume (Asks c) (Admits d rs) value m h = ap not m
not_needed has_volume (Asks c) (OnVolume name) value m h = absurd h
not_needed has_volume (Asks c) Nothing value m h = absurd h

supported : (keyword : Keyword) (statement : Statement) (value : List ℕ) → IsValue keyword value statement → is_unsupported keyword ≡ false
supported NamesVolume statement value h = refl
supported (Asks c) statement value h = refl
supported PassedOver statement value h = refl
supported Unsupported statement value h = absurd h

-- what reading an assignment says of its steps
record Steps (has_volume : Bool) (text : List ℕ) (statement : Statement) : Type 0 where
  keyword : Keyword
  keyword_is : keyword_of (trimmed (before_first is_equals text)) ≡ Some keyword
  stands_behind : (needs_volume keyword && not has_volume) ≡ false
  has_equals : list_any is_equals text ≡ true
  value : read_value keyword (trimmed (after_first is_equals text)) ≡ Ok statement

steps_of : (has_volume : Bool) (text : List ℕ) (statement : Statement) → read_assignment has_volume text ≡ Ok statement → Steps has_volume text statement
unfolding read_assignment
steps_of has_volume text statement e =
    let value : Keyword → Unit {0} → Result Statement ℕ = λ keyword u. read_value keyword (trimmed (after_first is_equals text)) in
    let equals : Keyword → Unit {0} → Result Statement ℕ = λ keyword u. refuse_if (not (list_any is_equals text)) 33 >>= value keyword in
    let volume : Keyword → Unit {0} → Result Statement ℕ = λ keyword u. refuse_if (needs_volume keyword && not has_volume) 30 >>= equals keyword in
    let asked : Keyword → Result Statement ℕ = λ keyword. refuse_if (is_unsupported keyword) 32 >>= volume keyword in
    let b = bind_ok (some_or (keyword_of (trimmed (before_first is_equals text))) 31) asked statement e in
    let s = refuse_ok (is_unsupported b.0) 32 (volume b.0) statement b.2 in
    let v = refuse_ok (needs_volume b.0 && not has_volume) 30 (equals b.0) statement s.1 in
    let q = refuse_ok (not (list_any is_equals text)) 33 (value b.0) statement v.1 in
    record {
      keyword = b.0;
      keyword_is = some_is (keyword_of (trimmed (before_first is_equals text))) 31 b.0 b.1;
      stands_behind = v.0;
      has_equals = not-false (list_any is_equals text) q.0;
      value = q.1;
    }

-- an assignment that is read
assignment_of : (has_volume : Bool) (text : List ℕ) (statement : Statement) → read_assignment has_volume text ≡ Ok statement → Framed (IsAssignmentOf statement) text × MayStand has_volume statement
assignment_of has_volume text statement e = go (none_or_cut 61 text) (steps_of has_volume text statement e)
  where
    go : Lacks 61 text ⊎ CutAt 61 text → Steps has_volume text statement → Framed (IsAssignmentOf statement) text × MayStand has_volume statement
    go (inl lacks) s = absurd (both_ways (list_any is_equals text) (any_none 61 text lacks) s.has_equals)
    go (inr k) s =
        let before : before_first is_equals text ≡ k.front = ap (before_first is_equals) k.joined ∙ before_is 61 k.front k.rest k.lacks in
        let after : after_first is_equals text ≡ k.rest = ap (after_first is_equals) k.joined ∙ after_is 61 k.front k.rest k.lacks in
        let word = framed_trimmed (IsKeyword s.keyword) k.front (subst (λ t. keyword_of (trimmed t) ≡ Some s.keyword) before s.keyword_is) in
        let value = (value_read s.keyword k.rest statement).0 (subst (λ t. read_value s.keyword (trimmed t) ≡ Ok statement) after s.value) in (
          framed_so (Parted 61 (IsKeyword s.keyword) (IsValueOf s.keyword statement)) (IsAssignmentOf statement) (assignment_from s.keyword statement) text
              (framed_parted 61 (IsKeyword s.keyword) (IsValueOf s.keyword statement) text k.front k.rest k.joined word value),
          stands has_volume s.keyword statement value.middle s.stands_behind value.inside,
        )

steps_read : (has_volume : Bool) (text : List ℕ) (statement : Statement) (s : Steps has_volume text statement) → is_unsupported s.keyword ≡ false → read_assignment has_volume text ≡ Ok statement
unfolding read_assignment
steps_read has_volume text statement s e = rw (s.keyword_is, e, s.stands_behind, s.has_equals, s.value) refl

regroup_rest : (front word before after value back : List ℕ) → front ++ (word ++ before ++ 61 ∷ after ++ value) ++ back ≡ front ++ (word ++ before ++ 61 ∷ (after ++ value ++ back)) ++ []
regroup_rest front word before after value back = simp (append_assoc, append-nil)

-- an assignment between blanks is read
reads_assignment : (has_volume : Bool) (text : List ℕ) (statement : Statement) → Framed (IsAssignmentOf statement) text → MayStand has_volume statement → read_assignment has_volume (trimmed text) ≡ Ok statement
reads_assignment has_volume text statement f m =
    let a = f.inside in
    let head = a.word ++ a.before in
    let rest = a.after ++ a.value ++ f.back in
    let word = word_letters a.word a.keyword a.word_is in
    let solid = keyword_solid a.keyword a.word a.word_is in
    let t = trimmed_behind head 61 rest (starts_with is_blank a.word a.before solid.first) refl in
    let text_is : text ≡ f.front ++ (head ++ 61 ∷ rest) ++ [] = f.joined ∙ ap (λ m. f.front ++ m ++ f.back) a.joined ∙ regroup_rest f.front a.word a.before a.after a.value f.back in
    let stated : trimmed text ≡ head ++ 61 ∷ t.kept = ap trimmed text_is ∙ trimmed_past f.front (head ++ 61 ∷ rest) [] f.blanks_front refl ∙ t.trimmed_as in
    let lacks : Lacks 61 head = lacks_join 61 a.word a.before (lacks_of is_letter 61 refl a.word word.1) (lacks_of is_blank 61 refl a.before a.blanks_before) in
    let front_is : trimmed (before_first is_equals (head ++ 61 ∷ t.kept)) ≡ a.word = ap trimmed (before_is 61 head t.kept lacks) ∙ trimmed_is [] a.word a.before refl a.blanks_before solid in
    let rest_is : trimmed (after_first is_equals (head ++ 61 ∷ t.kept)) ≡ trimmed rest =
    ap trimmed (after_is 61 head t.kept lacks) ∙ sym (ap trimmed t.rest_is ∙ trimmed_past [] t.kept t.back refl t.blanks_back) in
    let value : Framed (IsValueOf a.keyword statement) rest = record {
      front = a.after;
      middle = a.value;
      back = f.back;
      joined = refl;
      blanks_front = a.blanks_after;
      blanks_back = f.blanks_back;
      inside = a.value_is;
    } in
    let steps : Steps has_volume (head ++ 61 ∷ t.kept) statement = record {
      keyword = a.keyword;
      keyword_is = ap keyword_of front_is ∙ a.word_is;
      stands_behind = not_needed has_volume a.keyword statement a.value m a.value_is;
      has_equals = any_is 61 head t.kept;
      value = ap (read_value a.keyword) rest_is ∙ value_between a.keyword statement rest value;
    } in
    ap (read_assignment has_volume) stated ∙ steps_read has_volume (head ++ 61 ∷ t.kept) statement steps (supported a.keyword statement a.value a.value_is)

-- an assignment is read if it is between blanks
pub assignment_read : (has_volume : Bool) (text : List ℕ) (statement : Statement)
    → (read_assignment has_volume (trimmed text) ≡ Ok statement) ↔ (Framed (IsAssignmentOf statement) text × MayStand has_volume statement)
assignment_read has_volume text statement = (
  λ e. let a = assignment_of has_volume (trimmed text) statement e in (framed_twice (IsAssignmentOf statement) text (framed_trimmed (Framed (IsAssignmentOf statement)) text a.0), a.1),
  λ h. reads_assignment has_volume text statement h.0 h.1,
)

-- ---- lines

abbrev pub IsLineOf : Statement → List ℕ → Type 0
IsLineOf statement text = IsLine text statement

-- a value without quotes before blanks and a comment
quiet_kept : (value back comment : List ℕ) → list_all is_quiet value ≡ true → AreBlanks back → IsComment comment → before_comment false (value ++ back ++ comment) ≡ value ++ back
quiet_kept value back comment q b h =
    ap (before_comment false) (append_assoc value back comment) ∙ before_quiet false value (back ++ comment) q ∙ ap (λ t. value ++ t) (blanks_before back comment b h)

-- a name in quotes before blanks and a comment
quoted_kept : (name back comment : List ℕ) → list_all is_quiet name ≡ true → AreBlanks back → IsComment comment
    → before_comment false (34 ∷ name ++ 34 ∷ [] ++ back ++ comment) ≡ 34 ∷ name ++ 34 ∷ [] ++ back
unfolding before_comment
quoted_kept name back comment q b h =
    let e : name ++ 34 ∷ [] ++ back ++ comment ≡ name ++ 34 ∷ (back ++ comment) = append_assoc (name ++ 34 ∷ []) back comment ∙ append_assoc name (34 ∷ []) (back ++ comment) in
    ap (λ t. 34 ∷ t)
    (ap (before_comment true) e ∙ before_quiet true name (34 ∷ (back ++ comment)) q ∙ ap (λ t. name ++ 34 ∷ t) (blanks_before back comment b h) ∙ sym (append_assoc name (34 ∷ []) back))

-- the value of a line before its comment
value_kept : (keyword : Keyword) (statement : Statement) (value back comment : List ℕ) → IsValue keyword value statement → AreBlanks back → IsComment comment
    → Framed (IsValueOf keyword statement) (before_comment false (value ++ back ++ comment))
value_kept keyword statement value back comment v b h = go keyword statement v
  where
    behind : (k : Keyword) (s : Statement) → IsValue k value s → before_comment false (value ++ back ++ comment) ≡ value ++ back → Framed (IsValueOf k s) (before_comment false (value ++ back ++ comment))
    behind k s w e = record {
      front = [];
      middle = value;
      back = back;
      joined = e;
      blanks_front = refl;
      blanks_back = b;
      inside = w;
    }

    volume_kept : (name : List ℕ) → is_volume_name name ≡ true → ((value ≡ name) × (list_any is_space name ≡ false)) ⊎ (value ≡ 34 ∷ name ++ 34 ∷ []) → before_comment false (value ++ back ++ comment) ≡ value ++ back
    volume_kept name n (inl p) = quiet_kept value back comment (subst (λ t. list_all is_quiet t ≡ true) (sym p.0) (quiet_of is_name_byte refl refl name (name_bytes name n).1)) b h
    volume_kept name n (inr e) = subst (λ t. before_comment false (t ++ back ++ comment) ≡ t ++ back) (sym e) (quoted_kept name back comment (quiet_of is_name_byte refl refl name (name_bytes name n).1) b h)

    go : (k : Keyword) (s : Statement) → IsValue k value s → Framed (IsValueOf k s) (before_comment false (value ++ back ++ comment))
    go NamesVolume (OnVolume name) w = behind NamesVolume (OnVolume name) w (volume_kept name w.0 w.1)
    go (Asks c) (Admits d rs) w = behind (Asks c) (Admits d rs) w (quiet_kept value back comment (quiet_of is_items_byte refl refl value (items_bytes c rs value w.1)) b h)
    go PassedOver Nothing w =
        let open_is : quoted_after false value ≡ false = not-true (quoted_after false value) (sym (closed_is value) ∙ w) in
        let v = before_comment false (value ++ back ++ comment) in
        framed_alone (IsValueOf PassedOver Nothing) v (closed_is v ∙ ap not (closed_before false value back comment open_is b h))
    go NamesVolume Nothing w = absurd w
    go NamesVolume (Admits d rs) w = absurd w
    go (Asks c) Nothing w = absurd w
    go (Asks c) (OnVolume name) w = absurd w
    go PassedOver (OnVolume name) w = absurd w
    go PassedOver (Admits d rs) w = absurd w
    go Unsupported s w = absurd w

regroup_head : (front word before after value back comment : List ℕ)
    → front ++ (word ++ before ++ 61 ∷ after ++ value) ++ back ++ comment ≡ front ++ word ++ before ++ 61 ∷ after ++ (value ++ back ++ comment)
regroup_head front word before after value back comment = simp append_assoc

-- the assignment of a line before its comment
line_kept : (text : List ℕ) (statement : Statement) (l : IsLine text statement) → IsAssignment l.middle statement → Framed (IsAssignmentOf statement) (before_comment false text)
line_kept text statement l a =
    let head = l.front ++ a.word ++ a.before in
    let quiet : list_all is_quiet (head ++ 61 ∷ a.after) ≡ true =
    all_join is_quiet head (61 ∷ a.after)
    (all_join is_quiet (l.front ++ a.word) a.before
    (all_join is_quiet l.front a.word (blanks_quiet l.front l.blanks_front) (quiet_of is_letter refl refl a.word (word_letters a.word a.keyword a.word_is).1))
    (blanks_quiet a.before a.blanks_before))
    (and_from (is_quiet 61) (list_all is_quiet a.after) refl (blanks_quiet a.after a.blanks_after)) in
    let behind = a.value ++ l.back ++ l.comment in
    let value = before_comment false behind in
    let text_is : text ≡ head ++ 61 ∷ a.after ++ behind = l.joined ∙ ap (λ m. l.front ++ m ++ l.back ++ l.comment) a.joined ∙ regroup_head l.front a.word a.before a.after a.value l.back l.comment in
    let stated : before_comment false text ≡ head ++ 61 ∷ (a.after ++ value) =
    ap (before_comment false) text_is ∙ before_quiet false (head ++ 61 ∷ a.after) behind quiet ∙ append_assoc head (61 ∷ a.after) value in
    let word : Framed (IsKeyword a.keyword) head = record {
      front = l.front;
      middle = a.word;
      back = a.before;
      joined = refl;
      blanks_front = l.blanks_front;
      blanks_back = a.blanks_before;
      inside = a.word_is;
    } in
    let values : Framed (Framed (IsValueOf a.keyword statement)) (a.after ++ value) = record {
      front = a.after;
      middle = value;
      back = [];
      joined = sym (append-nil (a.after ++ value));
      blanks_front = a.blanks_after;
      blanks_back = refl;
      inside = value_kept a.keyword statement a.value l.back l.comment a.value_is l.blanks_back l.comment_is;
    } in
    framed_so (Parted 61 (IsKeyword a.keyword) (IsValueOf a.keyword statement)) (IsAssignmentOf statement) (assignment_from a.keyword statement) (before_comment false text)
    (framed_parted 61 (IsKeyword a.keyword) (IsValueOf a.keyword statement) (before_comment false text) head (a.after ++ value) stated word (framed_twice (IsValueOf a.keyword statement) (a.after ++ value) values))

-- nothing is no assignment
some_assigned : (has_volume : Bool) (text : List ℕ) (statement : Statement) → read_assignment has_volume text ≡ Ok statement → is_empty text ≡ false
some_assigned has_volume [] statement e = let h = (steps_of has_volume [] statement e).has_equals in absurd cc
some_assigned has_volume (c ∷ cs) statement e = ne_eqb (length (c ∷ cs)) 0 (λ h. omega (arith, h))

line_answer : (long none : Bool) (assignment : Result Statement ℕ) (statement : Statement) → long ≡ false → cond none (Ok Nothing) assignment ≡ Ok statement
    → (refuse_if long 34 >>= (λ u. cond none (Ok Nothing) assignment)) ≡ Ok statement
line_answer long none assignment statement e h = rw (e, h) refl

-- nothing, or an assignment
abbrev MaySay : Statement → List ℕ → Type 0
MaySay statement text = ((text ≡ []) × (statement ≡ Nothing)) ⊎ IsAssignment text statement

-- a line of the grammar is read
reads_line : (has_volume : Bool) (text : List ℕ) (statement : Statement) → IsLine text statement → MayStand has_volume statement → read_line has_volume text ≡ Ok statement
unfolding read_line
reads_line has_volume text statement l m =
    let stated = trimmed (before_comment false text) in
    line_answer (ltb 4096 (length text)) (is_empty stated) (read_assignment has_volume stated) statement (le-ltb 4096 (length text) l.fits) (go l.middle_is)
  where
    go : MaySay statement l.middle → cond (is_empty (trimmed (before_comment false text))) (Ok Nothing) (read_assignment has_volume (trimmed (before_comment false text))) ≡ Ok statement
    go (inl p) =
        let text_is : text ≡ l.front ++ [] ++ l.back ++ l.comment = l.joined ∙ ap (λ m. l.front ++ m ++ l.back ++ l.comment) p.0 in
        let blanks : AreBlanks (l.front ++ [] ++ l.back) = all_join is_blank (l.front ++ []) l.back (all_join is_blank l.front [] l.blanks_front refl) l.blanks_back in
        let none : trimmed (before_comment false text) ≡ [] =
        ap trimmed (ap (before_comment false) text_is ∙ blanks_before (l.front ++ [] ++ l.back) l.comment blanks l.comment_is) ∙ trimmed_past l.front [] l.back l.blanks_front l.blanks_back
        ∙ trimmed_nothing in
        rw none (ap (λ (s : Statement). Ok s) (sym p.1))
    go (inr a) =
        let read = (assignment_read has_volume (before_comment false text) statement).1 (line_kept text statement l a, m) in
        rw (some_assigned has_volume (trimmed (before_comment false text)) statement read) read

-- what comes before a comment makes a line with it
line_from : (text comment : List ℕ) (statement : Statement) → text ≡ before_comment false text ++ comment → IsComment comment → length text ≤ 4096
    → Framed (MaySay statement) (before_comment false text) → IsLine text statement
line_from text comment statement e h short f = record {
  front = f.front;
  middle = f.middle;
  back = f.back;
  comment = comment;
  joined = e ∙ ap (λ t. t ++ comment) f.joined;
  blanks_front = f.blanks_front;
  blanks_back = f.blanks_back;
  comment_is = h;
  middle_is = f.inside;
  fits = short;
}

-- a line that is read is in the grammar
line_of : (has_volume : Bool) (text : List ℕ) (statement : Statement) → read_line has_volume text ≡ Ok statement → IsLine text statement × MayStand has_volume statement
unfolding read_line
line_of has_volume text statement e =
    let kept = before_comment false text in
    let stated = trimmed kept in
    let answer : Unit {0} → Result Statement ℕ = λ u. cond (is_empty stated) (Ok Nothing) (read_assignment has_volume stated) in
    let r = refuse_ok (ltb 4096 (length text)) 34 answer statement e in
    let short = ltb-false 4096 (length text) r.0 in
    let c = comment_off false text in
    elim (chosen (is_empty stated) (Ok Nothing) (read_assignment has_volume stated) (Ok statement) r.1) [
      | inl p ↦
          let says : Nothing ≡ statement = ok_is Nothing statement p.1 in
          let none : stated ≡ [] = nil_from_length stated (eqb-true (length stated) 0 p.0) in
          (line_from text c.0 statement c.1 c.2 short (framed_trimmed (MaySay statement) kept (inl (none, sym says))), subst (λ (s : Statement). MayStand has_volume s) says tt)
      | inr p ↦
          let a = (assignment_read has_volume kept statement).0 p.1 in
          (line_from text c.0 statement c.1 c.2 short (framed_so (IsAssignmentOf statement) (MaySay statement) (λ m h. inr h) kept a.0), a.1)
    ]

-- a line is read if it is in the grammar, and ranges follow a volume
pub line_read : (has_volume : Bool) (text : List ℕ) (statement : Statement) → (read_line has_volume text ≡ Ok statement) ↔ (IsLine text statement × MayStand has_volume statement)
line_read has_volume text statement = (line_of has_volume text statement, λ h. reads_line has_volume text statement h.0 h.1)
