use Rattle.std.proofs.Common.{◌≡◌, ◌≤◌, ◌+◌, ◌++◌, ◌∷◌, [], map, reverse, length, vec_len, vec_capacity}
use Rattle.std.specs.List.{AllByRecursion}
use Rattle.br_reread_files.proofs.sharing.out_of_shares.Given as goal

-- what is taken apart and what is left are all
abbrev pub invariant-loop-shares : goal.invariant-loop-shares
invariant-loop-shares g l = record {
  drives : map (λ d. d ∷ []) l.drives.items ++ reverse (map (λ s. s.drives.items) l.shares.items)
      ≡ map (λ d. d ∷ []) l.fn.drives.items ++ reverse (map (λ s. s.drives.items) l.fn.shares.items);
  works : l.works.items ++ reverse (map (λ s. s.work) l.shares.items) ≡ reverse (map (λ s. s.work) l.fn.shares.items);
  one : AllByRecursion (λ s. length s.drives.items ≡ 1) l.shares.items;
  drives_room : vec_len l.drives + vec_len l.shares ≤ vec_capacity l.drives;
  works_room : vec_len l.works + vec_len l.shares ≤ vec_capacity l.works;
}

abbrev pub decreases-loop-shares : goal.decreases-loop-shares
decreases-loop-shares g l = vec_len l.shares
