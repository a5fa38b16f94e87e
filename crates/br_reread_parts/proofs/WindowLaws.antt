-- Windows of data, one after another.
use Rattle.std.proofs.Common.{◌≡◌, ◌<◌, ◌≤◌, ◌+◌, ℕ, zero, suc, List, [], ◌∷◌, ◌++◌, flat_map, take, length, get_or, refl, sym, ap, subst, ◌∙◌, append_assoc, length-append, arith}
use Rattle.std.specs.Prelude.{nat_abs}
use Rattle.std.proofs.lemmas.List.{append-nil, take_more}
use Rattle.br_model.specs.Meaning.{Hit}
use Rattle.br_data.specs.KeptData.{Kept}
use Rattle.br_join.specs.Plain.{plain_bytes, plain_of}
use Rattle.br_records.specs.Records.{fragments}
use Rattle.br_data.specs.ManyDrives.{RereadingMany}
use Rattle.br_reread_parts.specs.Given.{GivesHit, GivesHits}
use Rattle.br_reread_parts.specs.Windows.{data_bytes}
use Rattle.br_reread_parts.proofs.GivenLaws.{all_before, all_behind}

-- with one element more
pub flat_more : {A B : Type 0} (f : A → List B) (xs : List A) (x : A) → flat_map f (xs ++ x ∷ []) ≡ flat_map f xs ++ f x
flat_more f [] x = append-nil (f x)
flat_more f (y ∷ ys) x = ap (λ l. f y ++ l) (flat_more f ys x) ∙ sym (append_assoc (f y) (flat_map f ys) (f x))

-- the bytes of the first data and of the next one
pub one_more : (window : List Kept) (i : ℕ) (x : Kept) → i < length window → x ≡ get_or window i x → data_bytes (take i window) ++ x.bytes ≡ data_bytes (take (i + 1) window)
one_more window i x within is =
    sym (flat_more (λ (d : Kept). d.bytes) (take i window) x)
    ∙ ap data_bytes (ap (λ (d : Kept). take i window ++ d ∷ []) is ∙ sym (take_more window i x within))

after_same : (x a b : List ℕ) → length a ≤ length b → length (x ++ a) ≤ length (x ++ b)
after_same x a b few = let one = length-append x a in let other = length-append x b in omega (arith, few, one, other)

-- the first data have no more bytes than all
pub first_fewer : (n : ℕ) (window : List Kept) → length (data_bytes (take n window)) ≤ length (data_bytes window)
first_fewer zero window = omega arith
first_fewer (suc n) [] = omega arith
first_fewer (suc n) (x ∷ xs) = after_same x.bytes (data_bytes (take n xs)) (data_bytes xs) (first_fewer n xs)

-- the plain data of some hits and of those after them
pub plain_both : (xs ys : List Hit) → plain_bytes (fragments (xs ++ ys)) ≡ plain_bytes (fragments xs) ++ plain_bytes (fragments ys)
plain_both [] ys = refl
plain_both (x ∷ xs) ys =
    let one = plain_of (nat_abs x.fragment.stream) x.fragment.bytes in
    ap (λ (bytes : List ℕ). one ++ bytes) (plain_both xs ys) ∙ sym (append_assoc one (plain_bytes (fragments xs)) (plain_bytes (fragments ys)))

-- the data of a window and of the hits after it are those of all
pub opens : (hits window rest : List Hit) (found : List ℕ) → window ++ rest ≡ hits → found ≡ plain_bytes (fragments window)
    → found ++ plain_bytes (fragments rest) ≡ plain_bytes (fragments hits)
opens hits window rest found joined is =
    ap (λ (bytes : List ℕ). bytes ++ plain_bytes (fragments rest)) is ∙ sym (plain_both window rest) ∙ ap (λ (hs : List Hit). plain_bytes (fragments hs)) joined

-- without hits
pub none_left : (hits : List Hit) → length hits ≡ 0 → hits ≡ []
none_left [] none = refl
none_left (h ∷ hs) none = absurd (omega (arith, none))

-- the hits before a place are given, and those after it
pub given_both : (m : RereadingMany) (hits window rest : List Hit) → window ++ rest ≡ hits → GivesHits m hits → GivesHits m window × GivesHits m rest
given_both m hits window rest joined given =
    let all = subst (GivesHits m) (sym joined) given in (all_before (GivesHit m) window rest all, all_behind (GivesHit m) window rest all)
