use Rattle.std.proofs.Common.{[]}
use Rattle.sqlite.specs.Held.{state}
use Rattle.br_store.proofs.Ready.{from_each, stays}
use Rattle.br_store.proofs.Selects.{unchanged_keeps, not_run_keeps}
use Rattle.br_store.proofs.queries.ready.Goals as goal

pub returns-clause-same : goal.returns-clause-same
returns-clause-same g c clean =
    let old = state g.S.Store c.args.conn.now in
    let new = state g.S.Store c.prepare-prepared.new.self in
    let kept = from_each c.prepare-prepared.result _ _ (c.prepare-prepared.ensures.ok clean) (c.prepare-prepared.ensures.err clean) (λ s same. unchanged_keeps old new same.1) (λ e failed. not_run_keeps old new _ _ _ (failed [])) in
    stays old new (c.idle_is_settled.ensures c.requires) (c.idle_is_settled-2.ensures (c.prepare-prepared.ensures.mode c.requires)) kept
