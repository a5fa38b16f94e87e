-- The hits of a file, wherever it comes among hits in order.
use Rattle.std.proofs.Common.{◌≡◌, List, [], ◌∷◌, ◌++◌, cond, Some, refl, ap, sym, subst, ◌∙◌}
use Rattle.std.specs.Prelude.{slice_get}
use Rattle.std.specs.List.{AllByRecursion}
use Rattle.std.specs.declared.cmp.Ordering.TheVariants.{Less}
use Rattle.std.proofs.lemmas.Option.{same_Some}
use Rattle.br_model.specs.Meaning.{Hit}
use Rattle.br_model.specs.Name.{FileKey, key_cmp}
use Rattle.br_model.proofs.ListLaws.{all_weaker}
use Rattle.br_types.proofs.KeyLaws.{key_total}
use Rattle.br_records.proofs.FilesLaws.{IsApart, before_is_apart, behind_is_apart, itself}
use Rattle.br_join.specs.Front.{hits_for}

-- hits of other files before have none
others_before : (key : FileKey) (bs hs : List Hit) → AllByRecursion (IsApart key) bs → hits_for key (bs ++ hs) ≡ hits_for key hs
others_before key [] hs apart = refl
others_before key (b ∷ bs) hs apart = ap (λ s. cond s (b ∷ hits_for key (bs ++ hs)) (hits_for key (bs ++ hs))) apart.0 ∙ others_before key bs hs apart.1

others_alone : (key : FileKey) (hs : List Hit) → AllByRecursion (IsApart key) hs → hits_for key hs ≡ []
others_alone key [] apart = refl
others_alone key (h ∷ hs) apart = ap (λ s. cond s (h ∷ hits_for key hs) (hits_for key hs)) apart.0 ∙ others_alone key hs apart.1

own_before : (key : FileKey) (run hs : List Hit) → AllByRecursion (λ (h : Hit). h.key ≡ key) run → AllByRecursion (IsApart key) hs → hits_for key (run ++ hs) ≡ run
own_before key [] hs own apart = others_alone key hs apart
own_before key (r ∷ rs) hs own apart =
    ap (λ s. cond s (r ∷ hits_for key (rs ++ hs)) (hits_for key (rs ++ hs))) (itself r.key key own.0) ∙ ap (λ (hs : List Hit). r ∷ hs) (own_before key rs hs own.1 apart)

-- the run of a file has all its hits
pub whole_run : (key : FileKey) (all before run behind : List Hit) → before ++ (run ++ behind) ≡ all
    → AllByRecursion (λ (h : Hit). key_cmp h.key key ≡ Less) before → AllByRecursion (λ (h : Hit). h.key ≡ key) run → AllByRecursion (λ (h : Hit). key_cmp key h.key ≡ Less) behind
    → run ≡ hits_for key all
whole_run key all before run behind joined low own high =
    sym (own_before key run behind own (all_weaker (λ (h : Hit). key_cmp key h.key ≡ Less) (IsApart key) (behind_is_apart key) behind high))
    ∙ sym (others_before key before (run ++ behind) (all_weaker (λ (h : Hit). key_cmp h.key key ≡ Less) (IsApart key) (before_is_apart key) before low))
    ∙ ap (hits_for key) joined

-- the hits of a file among the last ones are all of that file
abbrev pub IsWholeIn : List Hit → List Hit → Hit → Type 0
IsWholeIn all rest h = hits_for h.key all ≡ hits_for h.key rest

-- of all hits it is so
pub whole_in_all : (all hs : List Hit) → AllByRecursion (IsWholeIn all all) hs
whole_in_all all [] = tt
whole_in_all all (h ∷ hs) = (refl, whole_in_all all hs)

-- and it stays so after a run
pub whole_behind : (key : FileKey) (all rest before run behind : List Hit) → before ++ (run ++ behind) ≡ rest
    → AllByRecursion (λ (h : Hit). key_cmp h.key key ≡ Less) before → AllByRecursion (λ (h : Hit). h.key ≡ key) run → AllByRecursion (λ (h : Hit). key_cmp key h.key ≡ Less) behind
    → AllByRecursion (IsWholeIn all rest) rest → AllByRecursion (IsWholeIn all behind) behind
whole_behind key all rest before run behind joined low own high whole =
    go behind high (last run behind (last before (run ++ behind) (subst (AllByRecursion (IsWholeIn all rest)) (sym joined) whole)))
  where
    last : (xs ys : List Hit) → AllByRecursion (IsWholeIn all rest) (xs ++ ys) → AllByRecursion (IsWholeIn all rest) ys
    last [] ys each = each
    last (x ∷ xs) ys each = last xs ys each.1

    later : (k : FileKey) → key_cmp key k ≡ Less → hits_for k rest ≡ hits_for k behind
    later k above =
        ap (hits_for k) (sym joined)
        ∙ others_before k before (run ++ behind)
        (all_weaker (λ (h : Hit). key_cmp h.key key ≡ Less) (IsApart k) (λ h below. before_is_apart k h (key_total.trans h.key key k below above)) before low)
        ∙ others_before k run behind
        (all_weaker (λ (h : Hit). h.key ≡ key) (IsApart k) (λ h same. before_is_apart k h (ap (λ (j : FileKey). key_cmp j k) same ∙ above)) run own)

    go : (hs : List Hit) → AllByRecursion (λ (h : Hit). key_cmp key h.key ≡ Less) hs → AllByRecursion (IsWholeIn all rest) hs → AllByRecursion (IsWholeIn all behind) hs
    go [] above same = tt
    go (h ∷ hs) above same = (same.0 ∙ later h.key above.0, go hs above.1 same.1)

-- the first of the hits that are left
pub whole_first : (all rest : List Hit) (first : Hit) → slice_get rest 0 ≡ Some first → AllByRecursion (IsWholeIn all rest) rest → hits_for first.key all ≡ hits_for first.key rest
whole_first all rest first is whole = go rest is whole
  where
    go : (hs : List Hit) → slice_get hs 0 ≡ Some first → AllByRecursion (IsWholeIn all rest) hs → hits_for first.key all ≡ hits_for first.key rest
    go [] none each = absurd cc
    go (h ∷ hs) some each =
        let same : h ≡ first = same_Some h first some in
        sym (ap (λ (g : Hit). hits_for g.key all) same) ∙ each.0 ∙ ap (λ (g : Hit). hits_for g.key rest) same
