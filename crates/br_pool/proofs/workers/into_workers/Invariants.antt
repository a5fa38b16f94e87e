use Rattle.std.proofs.Common.{◌≡◌, ◌+◌, ◌++◌, map, reverse, vec_len, vec_capacity}
use Rattle.std.specs.List.{AllZip}
use Rattle.br_pool.specs.declared.workers.WorkerShare.{WorkerShare}
use Rattle.br_pool.proofs.workers.into_workers.Given as goal

abbrev pub invariant-loop-share : goal.invariant-loop-share
invariant-loop-share g l = record {
  walk : l.yielded ++ l.share-iterator.rest.items ≡ l.fn.shares.items;
  given : AllZip (λ (d : WorkerShare) w. (w.seat ≡ d.seat) × (w.answers ≡ d.answers)) l.yielded l.workers.items;
  readers : l.readers.items ++ reverse (map (λ w. w.reader) l.workers.items) ≡ l.fn.readers.items;
  left : vec_len l.readers ≡ l.share-iterator.rest.len;
  count : vec_len l.workers + l.share-iterator.rest.len ≡ vec_len l.fn.shares;
  room : vec_capacity l.workers ≡ vec_capacity l.fn.workers;
  readers_room : vec_capacity l.readers ≡ vec_capacity l.fn.readers;
}
