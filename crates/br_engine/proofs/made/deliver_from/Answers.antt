use Rattle.std.proofs.Common.{Option, None, Some, map, subst, sym}
use Rattle.std.specs.Prelude.{option_map}
use Rattle.br_join.specs.Outcome.{restored}
use Rattle.br_pool.proofs.WorkedLaws.{all_kept}
use Rattle.br_engine.specs.DeliveredAgain.{CanGive, EndsLike}
use Rattle.br_engine.proofs.DeliverLaws.{ends_whole}
use Rattle.br_engine.proofs.EndLaws.{ends_like_itself, never_stops}
use Rattle.br_engine.proofs.made.deliver_from.Goals as goal

pub returns-in-None-clause-ends : goal.returns-in-None-clause-ends
returns-in-None-clause-ends g c =
    let rs = map restored c.args.outcomes.now in
    let given = CanGive g.D.Drive.shows g.D.Drive.failures c.args.drives.now.items c.args.groups.now (Some c.args.source.now.gathered.now) rs in
    subst (λ (s : Option g.row.S.Denot). EndsLike given (option_map g.S.Sink.has s) (option_map g.S.Sink.has s) rs c.end_of.result) (sym c.in-None.is)
    (ends_like_itself given None None rs c.end_of.result (ends_whole None None rs c.end_of.result c.end_of.ensures tt))

pub returns-in-None-clause-places : goal.returns-in-None-clause-places
returns-in-None-clause-places g c = all_kept g.D.Drive.shows g.D.Drive.failures c.args.drives.now.items

pub returns-in-None-clause-lost : goal.returns-in-None-clause-lost
returns-in-None-clause-lost g c = never_stops 70 _ (map restored c.args.outcomes.now) c.end_of.result c.end_of.ensures

pub returns-in-None-clause-changed : goal.returns-in-None-clause-changed
returns-in-None-clause-changed g c = never_stops 72 _ (map restored c.args.outcomes.now) c.end_of.result c.end_of.ensures
