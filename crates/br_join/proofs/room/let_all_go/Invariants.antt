use Rattle.std.proofs.Common.{◌≡◌, vec_len, vec_capacity}
use Rattle.br_join.proofs.room.let_all_go.Given as goal

-- for contracts the hits are the same
abbrev pub invariant-loop-i : goal.invariant-loop-i
invariant-loop-i l = record {
  same : l.hits.items ≡ l.initial.hits.items;
  len : vec_len l.hits ≡ vec_len l.initial.hits;
  capacity : vec_capacity l.hits ≡ vec_capacity l.initial.hits;
}
