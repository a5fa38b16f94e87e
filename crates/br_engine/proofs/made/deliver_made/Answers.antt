use Rattle.std.proofs.Common.{List, map, subst}
use Rattle.std.specs.Prelude.{option_map}
use Rattle.br_model.specs.Name.{FileKey}
use Rattle.br_join.specs.Outcome.{restored}
use Rattle.br_join.specs.declared.item.Outcome.{Outcome}
use Rattle.br_pool.proofs.WorkedLaws.{all_kept}
use Rattle.br_engine.specs.DeliveredAgain.{CanGive}
use Rattle.br_engine.specs.Delivering.{EndsWith}
use Rattle.br_engine.proofs.EndLaws.{ends_like_itself, stops_weaker}
use Rattle.br_engine.proofs.made.deliver_made.Goals as goal

pub returns-in-None-clause-ends : goal.returns-in-None-clause-ends
returns-in-None-clause-ends g c =
    let made = c.args.made.now in
    let rs = map restored made.outcomes.items in
    let had = option_map g.S.Sink.has c.args.sink.now in
    let has = option_map g.S.Sink.has c.deliver_files.new.sink in
    ends_like_itself (CanGive g.D.Drive.shows g.D.Drive.failures c.args.drives.now.items c.args.groups.now made.gathered rs) had has rs c.deliver_files.result
    (subst (λ (os : List (FileKey × Outcome)). EndsWith had has (map restored os) c.deliver_files.result) c.deref.ensures.value c.deliver_files.ensures.ends)

pub returns-in-None-clause-places : goal.returns-in-None-clause-places
returns-in-None-clause-places g c = all_kept g.D.Drive.shows g.D.Drive.failures c.args.drives.now.items

pub returns-in-None-clause-lost : goal.returns-in-None-clause-lost
returns-in-None-clause-lost g c = stops_weaker 70 ⊥ _ c.deliver_files.result (λ none. absurd none) c.deliver_files.ensures.lost

pub returns-in-None-clause-changed : goal.returns-in-None-clause-changed
returns-in-None-clause-changed g c = stops_weaker 72 ⊥ _ c.deliver_files.result (λ none. absurd none) c.deliver_files.ensures.changed
