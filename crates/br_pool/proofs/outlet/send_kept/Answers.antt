use Rattle.std.proofs.Common.{ap, ◌∙◌}
use Rattle.std.specs.Prelude.{Vec}
use Rattle.std.specs.Global.{Global}
use Rattle.crossbeam_queue.specs.Passes.{view}
use Rattle.br_match.specs.declared.hit.Batch.{Batch}
use Rattle.br_pool.specs.Gathering.{with_pushed}
use Rattle.br_pool.proofs.OutletLaws.{kept_are_sent}
use Rattle.br_pool.proofs.outlet.send_kept.Goals as goal

pub returns-clause-none : goal.returns-clause-none
returns-clause-none g c = ap (λ (v : Vec Batch Global). v.items) c.replace-kept.ensures.after ∙ c.new.ensures.items

pub returns-clause-same : goal.returns-clause-same
returns-clause-same g c =
    kept_are_sent (view c.args.outlet.now.pass) (view c.send_each.new.pass) c.args.outlet.now.kept.items c.replace-kept.new.dest.items
    (c.send_each.ensures.sent ∙ ap (λ (v : Vec Batch Global). with_pushed (view c.args.outlet.now.pass) v.items) c.replace-kept.ensures.value)
    (ap (λ (v : Vec Batch Global). v.items) c.replace-kept.ensures.after ∙ c.new.ensures.items)
