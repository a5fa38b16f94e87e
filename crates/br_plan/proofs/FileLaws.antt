-- The files of entries, sorted and without repeats.
use Rattle.std.proofs.Common.{◌≡◌, Bool, true, ◌&&◌, eqb, List, map, sym, subst}
use Rattle.std.proofs.lemmas.Bool.{and_parts, eqb-true}
use Rattle.std.proofs.lemmas.Cmp.{on_total, then_total}
use Rattle.std.proofs.lemmas.List.Kept.{IsStrictlySortedBy-dedup, Contains-dedup, Contains-from_dedup}
use Rattle.std.proofs.lemmas.List.Sorted.{Contains-permutation, IsPermutation-sym}
use Rattle.std.specs.Cmp.{IsTotalOrder, nat_cmp_total, eq_by_cmp_equiv, IsEquivalence}
use Rattle.std.specs.List.{dedup}
use Rattle.std.specs.List.Sorted.{IsPermutation, IsSorted}
use Rattle.br_model.specs.View.{Entry}
use Rattle.br_plan.specs.Selected.{FileOf, file_cmp, file_of}
use Rattle.br_plan.specs.Parts.{AreFiles}
use Rattle.br_plan.proofs.SetLaws.{files_tied}

pub files_total : IsTotalOrder file_cmp
files_total = then_total (on_total (λ (f : FileOf). f.0) nat_cmp_total) (on_total (λ (f : FileOf). f.1) nat_cmp_total)

-- whether two files are one
abbrev pub same_file : FileOf → FileOf → Bool
same_file a b = eqb a.0 b.0 && eqb a.1 b.1

pub same_file_is : (a b : FileOf) → same_file a b ≡ true → a ≡ b
same_file_is a b e = let p = and_parts (eqb a.0 b.0) (eqb a.1 b.1) e in let q = eqb-true a.0 b.0 p.0 in let r = eqb-true a.1 b.1 p.1 in λ i. (q i, r i)

same_by_order : IsEquivalence same_file
same_by_order = subst IsEquivalence (λ i a b. files_tied a b i) (eq_by_cmp_equiv files_total)

-- the files of entries that were sorted, without repeats
pub sorted_are_files : (entries : List Entry) (each sorted files : List FileOf) → each ≡ map file_of entries → IsPermutation each sorted → IsSorted file_cmp sorted → files ≡ dedup same_file sorted
    → AreFiles entries files
sorted_are_files entries each sorted files is moved rising less =
    let whole : IsPermutation (map file_of entries) sorted = subst (λ (fs : List FileOf). IsPermutation fs sorted) is moved in
    subst (AreFiles entries) (sym less) (record {
      rise = IsStrictlySortedBy-dedup files_total (λ a b. sym (files_tied a b)) sorted rising;
      from = λ f inside. Contains-permutation sorted (map file_of entries) f (IsPermutation-sym (map file_of entries) sorted whole) (Contains-from_dedup same_file sorted f inside);
      has = λ f inside. Contains-dedup same_by_order same_file_is sorted f (Contains-permutation (map file_of entries) sorted f whole inside);
    })
