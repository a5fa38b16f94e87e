use Rattle.std.proofs.Common.{map, Ok, ap, subst, sym, ◌∙◌}
use Rattle.br_model.specs.Meaning.{Hits}
use Rattle.br_pool.specs.Streaming.{StreamsOver}
use Rattle.br_pool.proofs.WorkedLaws.{all_kept}
use Rattle.br_join.specs.Joining.{Joining}
use Rattle.br_engine.proofs.JoinLaws.{fresh_is_made, joined_found, joined_refused}
use Rattle.br_engine.proofs.restoring.join_all.Goals as goal

pub returns-in_default-clause-places : goal.returns-in_default-clause-places
returns-in_default-clause-places g c = all_kept g.D.Drive.shows g.D.Drive.failures c.args.drives.now.items

pub returns-in_default-with_room-clause-places : goal.returns-in_default-with_room-clause-places
returns-in_default-with_room-clause-places g c = all_kept g.D.Drive.shows g.D.Drive.failures c.args.drives.now.items

pub run_pool_streaming-requires-clause-made : goal.run_pool_streaming-requires-clause-made
run_pool_streaming-requires-clause-made g c = λ κs lives.
    fresh_is_made _ c.deref-2.result.now c.deref.result.now c.args.names c.in-Ok-with_room.joiner (c.deref-2.ensures.value ∙ sym c.deref.ensures.value) c.in-Ok-with_room.ensures

pub returns-in-Ok-run_pool_streaming-clause-names : goal.returns-in-Ok-run_pool_streaming-clause-names
returns-in-Ok-run_pool_streaming-clause-names g c = c.in-Ok-run_pool_streaming.ensures.names ∙ ap (λ (j : Joining). j.names) c.in-Ok-with_room.ensures

pub returns-in-Ok-run_pool_streaming-clause-hits : goal.returns-in-Ok-run_pool_streaming-clause-hits
returns-in-Ok-run_pool_streaming-clause-hits g c =
    let earlier = map g.D.Drive.shows c.args.drives.now.items in
    let later = map g.D.Drive.shows c.run_pool_streaming.new.drives.items in
    let pieces = c.deref-2.result.now in
    let hits = c.run_pool_streaming.new.joiner.hits in
    let begun_with = ap (λ (j : Joining). j.hits) c.in-Ok-with_room.ensures in
    joined_found earlier later c.args.bootstrap.now pieces hits (c.deref-2.ensures.value ∙ c.in-Ok.ensures)
    (subst (λ (held : Hits). StreamsOver (earlier, later) pieces held hits (Ok tt)) begun_with c.in-Ok-run_pool_streaming.ensures.hits)

pub returns-clause-hits : goal.returns-clause-hits
returns-clause-hits g c =
    joined_refused (map g.D.Drive.shows c.args.drives.now.items) (map g.D.Drive.shows c.run_pool_streaming.new.drives.items) c.args.bootstrap.now
    c.deref-2.result.now c.in-Ok-with_room.joiner.hits c.run_pool_streaming.new.joiner.hits c.in-Err.fault (c.deref-2.ensures.value ∙ c.in-Ok.ensures) c.in-Err.ensures.hits
