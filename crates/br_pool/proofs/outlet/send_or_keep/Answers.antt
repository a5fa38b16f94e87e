use Rattle.std.proofs.Common.{refl, sym, ap, ◌∙◌, arith}
use Rattle.std.proofs.lemmas.Bool.{eqb-true}
use Rattle.std.proofs.lemmas.List.{nil_from_length}
use Rattle.crossbeam_queue.specs.Passes.{view}
use Rattle.br_pool.specs.Outlets.{outlet_view}
use Rattle.br_pool.specs.declared.batch_queue.Crew.{Crew}
use Rattle.br_pool.proofs.OutletLaws.{back_is_kept, back_is_lost, one_sent}
use Rattle.br_pool.proofs.outlet.send_or_keep.Goals as goal

pub send-requires-clause-part : goal.send-requires-clause-part
send-requires-clause-part g c = let a = ap (λ (v : Crew). v.parts) c.send_kept.ensures.same in let b = c.requires.part in omega (arith, a, b)

pub returns-then-has_begun-clause-sent : goal.returns-then-has_begun-clause-sent
returns-then-has_begun-clause-sent g c =
    one_sent (outlet_view c.args.outlet.now) (view c.send_kept.new.outlet.pass) (view c.send.new.pass) c.send_kept.new.outlet.kept.items c.args.batch
    c.send_kept.ensures.same c.send_kept.ensures.none c.send.ensures.sent

pub returns-in-Ok-clause-sent : goal.returns-in-Ok-clause-sent
returns-in-Ok-clause-sent g c =
    let kept = c.args.outlet.now.kept in
    let none = nil_from_length kept.items (sym kept.ok.0 ∙ eqb-true kept.len 0 (sym c.is_empty.ensures ∙ c.if-not-is_empty.false)) in
    one_sent (outlet_view c.args.outlet.now) (view c.args.outlet.now.pass) (view c.try_send.new.pass) kept.items c.args.batch refl none c.in-Ok.ensures.sent

pub returns-in-Err-clause-sent : goal.returns-in-Err-clause-sent
returns-in-Err-clause-sent g c =
    back_is_kept c.keep-in-Err.result (view c.args.outlet.now.pass) (view c.try_send.new.pass) (outlet_view c.keep-in-Err.new.outlet) c.args.outlet.now.kept.items c.in-Err.back c.args.batch
    c.in-Err.ensures.same c.in-Err.ensures.back c.keep-in-Err.ensures.sent

pub returns-in-Err-clause-same : goal.returns-in-Err-clause-same
returns-in-Err-clause-same g c =
    back_is_lost c.keep-in-Err.result (view c.args.outlet.now.pass) (view c.try_send.new.pass) (outlet_view c.keep-in-Err.new.outlet) c.args.outlet.now.kept.items
    c.in-Err.ensures.same c.keep-in-Err.ensures.same
