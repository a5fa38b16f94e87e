use Rattle.std.proofs.Common.{◌≡◌, ◌+◌, ◌++◌, [], length, map, vec_len, vec_capacity}
use Rattle.br_claim.specs.Claims.{with_seats, AllAscending, AllOf}
use Rattle.br_claim.proofs.claims.Claims.gather.Given as goal

abbrev pub invariant-loop-seat : goal.invariant-loop-seat
invariant-loop-seat l = record {
  own : (l.own.table_id ≡ l.initial.own.table_id) × (l.own.me ≡ (with_seats l.initial.own.me.0 l.yielded, []));
  lists : map (λ v. v.items) l.lists.items ≡ map (λ s. s.drawn) l.yielded;
  rises : AllAscending (map (λ s. s.drawn) l.yielded);
  room : vec_capacity l.lists ≡ vec_capacity l.initial.lists;
  count : vec_len l.lists ≡ length l.yielded;
  walk : l.yielded ++ l.seat-iterator.rest.items ≡ l.fn.seats.items;
  left : length l.yielded + l.seat-iterator.rest.len ≡ vec_len l.fn.seats;
  rest : AllOf l.initial.own.table_id l.seat-iterator.rest.items;
}
