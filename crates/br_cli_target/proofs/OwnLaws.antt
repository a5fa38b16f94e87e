-- The hits of one file among hits in order, files among files in order, and where files come from.
use Rattle.std.proofs.Common.{◌≡◌, ℕ, ◌<◌, Bool, true, false, cond, ltb, List, [], ◌∷◌, ◌++◌, length, get_or, refl, sym, ap, ◌∙◌, arith}
use Rattle.std.proofs.lemmas.Bool.{ltb-true, ltb-false}
use Rattle.std.proofs.lemmas.List.{append-nil}
use Rattle.std.proofs.lemmas.List.Elements.{filter-append}
use Rattle.std.proofs.lemmas.List.Folds.{list_any_none}
use Rattle.std.specs.List.{AllByRecursion}
use Rattle.std.specs.List.Sorted.{IsPartitionPoint}
use Rattle.std.specs.Ordering.{is_eq}
use Rattle.std.specs.declared.cmp.Ordering.TheVariants.{Less, Greater}
use Rattle.br_model.specs.Meaning.{Hit}
use Rattle.br_model.specs.Name.{FileKey, key_cmp, same_key}
use Rattle.br_model.proofs.ListLaws.{all_weaker}
use Rattle.br_cli_target.specs.OwnHits.{hits_of, is_among, is_of}
use Rattle.br_records.proofs.FilesLaws.{IsApart, before_is_apart, behind_is_apart, itself}
use Rattle.br_records.proofs.SortLaws.{same_key_is_tie}

-- ---- the hits of a file

no_others : (key : FileKey) (hs : List Hit) → AllByRecursion (IsApart key) hs → hits_of key hs ≡ []
no_others key [] a = refl
no_others key (h ∷ hs) a = ap (λ (b : Bool). cond b (h ∷ hits_of key hs) (hits_of key hs)) a.0 ∙ no_others key hs a.1

all_own : (key : FileKey) (hs : List Hit) → AllByRecursion (λ (h : Hit). h.key ≡ key) hs → hits_of key hs ≡ hs
all_own key [] a = refl
all_own key (h ∷ hs) a =
    ap (λ (b : Bool). cond b (h ∷ hits_of key hs) (hits_of key hs)) (itself h.key key a.0) ∙ ap (λ (gs : List Hit). h ∷ gs) (all_own key hs a.1)

-- the hits of a file are those between the hits of the files before it and those of the files after it
pub own_are : (key : FileKey) (all before own behind : List Hit) → before ++ (own ++ behind) ≡ all
    → AllByRecursion (λ (h : Hit). key_cmp h.key key ≡ Less) before → AllByRecursion (λ (h : Hit). h.key ≡ key) own → AllByRecursion (λ (h : Hit). key_cmp key h.key ≡ Less) behind
    → own ≡ hits_of key all
own_are key all before own behind joined low same high =
    sym
    (ap (hits_of key) (sym joined) ∙ filter-append (is_of key) before (own ++ behind)
    ∙ ap (λ (hs : List Hit). hs ++ hits_of key (own ++ behind)) (no_others key before (all_weaker (λ (h : Hit). key_cmp h.key key ≡ Less) (IsApart key) (before_is_apart key) before low))
    ∙ filter-append (is_of key) own behind
    ∙ (λ i. all_own key own same i ++ no_others key behind (all_weaker (λ (h : Hit). key_cmp key h.key ≡ Less) (IsApart key) (behind_is_apart key) behind high) i)
    ∙ append-nil own)

-- ---- a file among files

-- a file that no file of the list ties with is not among them
pub not_among : (keys : List FileKey) (key : FileKey) (i : ℕ)
    → IsPartitionPoint (λ k. key_cmp k key ≡ Less) (λ k. key_cmp k key ≡ Greater) keys i → false ≡ is_among keys key
not_among keys key i parts = sym (list_any_none (λ k. same_key k key) keys (λ k d lt. at k d lt (ltb k i) refl))
  where
    at : (k : ℕ) (d : FileKey) → k < length keys → (t : Bool) → ltb k i ≡ t → same_key (get_or keys k d) key ≡ false
    at k d lt true is = same_key_is_tie (get_or keys k d) key ∙ ap is_eq (parts.0 k d (omega arith) (ltb-true k i is))
    at k d lt false is = same_key_is_tie (get_or keys k d) key ∙ ap is_eq (parts.1 k d (ltb-false k i is) lt)
