-- The name of a volume, in quotes or without.
use Rattle.std.proofs.Common.{◌≡◌, ◌≤◌, ◌-◌, ◌&&◌, ◌==◌, ℕ, suc, Bool, true, false, not, cond, leb, List, [], ◌∷◌, ◌++◌, length, take, drop, get_or, Result, Ok, Err, refl, ap, sym, ◌∙◌, arith}
use Rattle.std.specs.Prelude.{bytes_eq}
use Rattle.std.specs.List.{list_any}
use Rattle.std.proofs.lemmas.Bool.{and_parts, and_from, leb-true, le-leb, eqb-true, eq-eqb}
use Rattle.std.proofs.lemmas.Bool.Decides.{same_from_decides}
use Rattle.std.proofs.lemmas.List.{get_or-take, length-append, length-take}
use Rattle.std.proofs.lemmas.Slice.Eq.{bytes_eq-Decides}
use Rattle.std.proofs.Math.Seq.{get_or-append_seam}
use Rattle.br_model.specs.Answer.{refused_as}
use Rattle.br_model.specs.Text.{is_space}
use Rattle.br_model.specs.Name.{dot, dot_dot, is_name, is_volume_name, checked_volume_name}
use Rattle.br_model.specs.BootstrapText.{inside, read_volume}
use Rattle.br_bsr.specs.Line.{has_quotes}
use Rattle.br_bsr.proofs.ScanLaws.{last_apart}

-- ---- the text in quotes

first_apart : (xs : List ℕ) → 1 ≤ length xs → xs ≡ get_or xs 0 0 ∷ drop 1 xs
first_apart [] some = absurd (omega arith)
first_apart (x ∷ xs) some = refl

quoted_is : (text : List ℕ) → 2 ≤ length text → get_or text 0 0 ≡ 34 → get_or text (length text - 1) 0 ≡ 34 → text ≡ 34 ∷ inside text ++ 34 ∷ []
quoted_is text long first last =
    let front : List ℕ = take (length text - 1) text in
    let apart : front ≡ get_or front 0 0 ∷ drop 1 front = first_apart front (rw length-take (omega arith)) in
    let head : get_or front 0 0 ≡ 34 = get_or-take (length text - 1) text 0 0 (omega arith) ∙ first in
    last_apart text (omega arith) ∙ ap (λ n. front ++ n ∷ []) last ∙ ap (λ (xs : List ℕ). xs ++ 34 ∷ []) (apart ∙ ap (λ n. n ∷ drop 1 front) head)

quotes_give : (text : List ℕ) → has_quotes text ≡ true → text ≡ 34 ∷ inside text ++ 34 ∷ []
quotes_give text e =
    let parts = and_parts (leb 2 (length text)) (get_or text 0 0 == 34 && get_or text (length text - 1) 0 == 34) e in
    let ends = and_parts (get_or text 0 0 == 34) (get_or text (length text - 1) 0 == 34) parts.1 in
    quoted_is text (leb-true 2 (length text) parts.0) (eqb-true (get_or text 0 0) 34 ends.0) (eqb-true (get_or text (length text - 1) 0) 34 ends.1)

last_place : (name : List ℕ) → length (34 ∷ name ++ 34 ∷ []) - 1 ≡ suc (length name)
last_place name = omega (arith, length-append name (34 ∷ []))

has_quotes-quoted : (name : List ℕ) → has_quotes (34 ∷ name ++ 34 ∷ []) ≡ true
has_quotes-quoted name =
    and_from (leb 2 (length (34 ∷ name ++ 34 ∷ []))) (get_or (34 ∷ name ++ 34 ∷ []) (length (34 ∷ name ++ 34 ∷ []) - 1) 0 == 34)
    (le-leb 2 (length (34 ∷ name ++ 34 ∷ [])) (omega (arith, length-append name (34 ∷ []))))
    (eq-eqb (get_or (34 ∷ name ++ 34 ∷ []) (length (34 ∷ name ++ 34 ∷ []) - 1) 0) 34
    (ap (λ n. get_or (34 ∷ name ++ 34 ∷ []) n 0) (last_place name) ∙ get_or-append_seam name 34 [] 0))

quotes_from : (text name : List ℕ) → text ≡ 34 ∷ name ++ 34 ∷ [] → has_quotes text ≡ true
quotes_from text name e = ap has_quotes e ∙ has_quotes-quoted name

quotes_are : (text : List ℕ) → has_quotes text ≡ bytes_eq text (34 ∷ inside text ++ 34 ∷ [])
quotes_are text =
    same_from_decides (has_quotes text) (bytes_eq text (34 ∷ inside text ++ 34 ∷ [])) (quotes_give text, quotes_from text (inside text))
    (bytes_eq-Decides text (34 ∷ inside text ++ 34 ∷ []))

pub inside_is : (text : List ℕ) → take (length text - 1 - 1) (drop 1 text) ≡ inside text
inside_is [] = refl
inside_is (x ∷ []) = refl
inside_is (x ∷ y ∷ ys) =
    let short : length (x ∷ y ∷ ys) - 1 - 1 ≡ length ys = omega arith in
    let long : length (x ∷ y ∷ ys) - 1 ≡ suc (length ys) = omega arith in
    ap (λ n. take n (y ∷ ys)) short ∙ sym (ap (λ n. drop 1 (take n (x ∷ y ∷ ys))) long)

-- ---- the name that is read

none_of : (a b c d : Bool) → ((a && b && false) && c && d) ≡ false
none_of true true c d = refl
none_of true false c d = refl
none_of false b c d = refl

quoted_is_no_name : (rest : List ℕ) → is_volume_name (34 ∷ rest) ≡ false
unfolding is_volume_name is_name
quoted_is_no_name rest =
    none_of (leb 1 (length (34 ∷ rest))) (leb (length (34 ∷ rest)) 127) (not (bytes_eq (34 ∷ rest) dot)) (not (bytes_eq (34 ∷ rest) dot_dot))

abbrev shape : Bool → Bool → Bool → Bool → List ℕ → List ℕ → Result (List ℕ) ℕ
shape is_plain has_space is_inner has_ends text inner =
    cond (is_plain && not has_space) (Ok text) (cond (is_inner && has_ends) (Ok inner) (Err 33))

shape_is : (text : List ℕ)
    → read_volume text ≡ shape (is_volume_name text) (list_any is_space text) (is_volume_name (inside text)) (bytes_eq text (34 ∷ inside text ++ 34 ∷ [])) text (inside text)
unfolding read_volume
shape_is text = refl

inner_only : (s i : Bool) (text inner : List ℕ) → shape false s i true text inner ≡ refused_as (λ (n : ℕ). 33) (cond i (Ok inner) (Err 2))
inner_only s true text inner = refl
inner_only s false text inner = refl

plain_only : (p i : Bool) (text inner : List ℕ) → shape p false i false text inner ≡ refused_as (λ (n : ℕ). 33) (cond p (Ok text) (Err 2))
plain_only true i text inner = refl
plain_only false true text inner = refl
plain_only false false text inner = refl

neither : (p i : Bool) (text inner : List ℕ) → shape p true i false text inner ≡ Err 33
neither true true text inner = refl
neither true false text inner = refl
neither false true text inner = refl
neither false false text inner = refl

pub volume_quoted : (text : List ℕ) → has_quotes text ≡ true → read_volume text ≡ refused_as (λ (n : ℕ). 33) (checked_volume_name (inside text))
unfolding checked_volume_name
volume_quoted text e =
    let is_none : is_volume_name text ≡ false = ap is_volume_name (quotes_give text e) ∙ quoted_is_no_name (inside text ++ 34 ∷ []) in
    shape_is text
    ∙ ap (λ b. shape b (list_any is_space text) (is_volume_name (inside text)) (bytes_eq text (34 ∷ inside text ++ 34 ∷ [])) text (inside text)) is_none
    ∙ ap (λ b. shape false (list_any is_space text) (is_volume_name (inside text)) b text (inside text)) (sym (quotes_are text) ∙ e)
    ∙ inner_only (list_any is_space text) (is_volume_name (inside text)) text (inside text)

pub volume_plain : (text : List ℕ) → has_quotes text ≡ false → list_any is_space text ≡ false
    → read_volume text ≡ refused_as (λ (n : ℕ). 33) (checked_volume_name text)
unfolding checked_volume_name
volume_plain text e none =
    shape_is text
    ∙ ap (λ b. shape (is_volume_name text) (list_any is_space text) (is_volume_name (inside text)) b text (inside text)) (sym (quotes_are text) ∙ e)
    ∙ ap (λ b. shape (is_volume_name text) b (is_volume_name (inside text)) false text (inside text)) none
    ∙ plain_only (is_volume_name text) (is_volume_name (inside text)) text (inside text)

pub volume_spaced : (text : List ℕ) → has_quotes text ≡ false → list_any is_space text ≡ true → read_volume text ≡ Err 33
volume_spaced text e some =
    shape_is text
    ∙ ap (λ b. shape (is_volume_name text) (list_any is_space text) (is_volume_name (inside text)) b text (inside text)) (sym (quotes_are text) ∙ e)
    ∙ ap (λ b. shape (is_volume_name text) b (is_volume_name (inside text)) false text (inside text)) some
    ∙ neither (is_volume_name text) (is_volume_name (inside text)) text (inside text)
