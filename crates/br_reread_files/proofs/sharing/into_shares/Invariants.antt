use Rattle.std.proofs.Common.{◌≡◌, ◌+◌, ◌++◌, ◌∷◌, [], map, reverse, vec_len, vec_capacity}
use Rattle.br_reread_files.proofs.sharing.into_shares.Given as goal

-- the drives that are left and those of the shares are all
abbrev pub invariant-loop-work : goal.invariant-loop-work
invariant-loop-work g l = record {
  walk : l.yielded ++ l.work-iterator.rest.items ≡ l.fn.works.items;
  works : map (λ s. s.work) l.shares.items ≡ l.yielded;
  drives : map (λ d. d ∷ []) l.drives.items ++ reverse (map (λ s. s.drives.items) l.shares.items) ≡ map (λ d. d ∷ []) l.fn.drives.items;
  left : vec_len l.drives ≡ l.work-iterator.rest.len;
  count : vec_len l.shares + l.work-iterator.rest.len ≡ vec_len l.fn.works;
  room : vec_capacity l.shares ≡ vec_capacity l.fn.shares;
  drives_room : vec_capacity l.drives ≡ vec_capacity l.fn.drives;
}
