use Rattle.std.proofs.Common.{sym, ◌∙◌}
use Rattle.std.proofs.lemmas.Bool.{eqb-true}
use Rattle.std.proofs.lemmas.List.{nil_from_length}
use Rattle.br_pool.specs.Outlets.{outlet_view}
use Rattle.br_pool.proofs.OutletLaws.{pushes_no_hits, pushes_on_ok}
use Rattle.br_pool.proofs.sender.send_hits.Goals as goal

pub returns-then-is_empty-clause-sent : goal.returns-then-is_empty-clause-sent
returns-then-is_empty-clause-sent g c =
    let hits = c.args.batch.hits in
    pushes_no_hits (outlet_view c.args.outlet.now) hits.items (nil_from_length hits.items (sym hits.ok.0 ∙ eqb-true hits.len 0 (sym c.is_empty.ensures ∙ c.if-is_empty.true)))

pub returns-clause-sent : goal.returns-clause-sent
returns-clause-sent g c =
    pushes_on_ok c.send_or_keep.result (outlet_view c.args.outlet.now) (outlet_view c.send_or_keep.new.outlet) c.args.batch c.send_or_keep.ensures.sent
