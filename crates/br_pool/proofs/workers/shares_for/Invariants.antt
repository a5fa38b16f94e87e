use Rattle.std.proofs.Common.{◌≡◌, ◌≤◌, ◌+◌, vec_len, vec_capacity}
use Rattle.std.specs.List.{AllByRecursion}
use Rattle.br_pool.specs.Workers.{IsReady}
use Rattle.br_pool.specs.declared.workers.WorkerShare.{WorkerShare}
use Rattle.br_pool.proofs.workers.shares_for.Given as goal

abbrev pub invariant-loop-place : goal.invariant-loop-place
invariant-loop-place l = record {
  many : vec_len l.shares ≡ l._place;
  room : l.count ≤ vec_capacity l.shares;
  ready : AllByRecursion (λ (d : WorkerShare). IsReady l.fn.claims.claims l.fn.room d.seat d.answers) l.shares.items;
  claims : l.claims ≡ record l.fn.claims { seats = l.fn.claims.seats + l._place };
}
