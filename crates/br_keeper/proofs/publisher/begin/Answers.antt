use Rattle.std.proofs.Common.{ap, ◌∙◌, drop}
use Rattle.left_right.specs.Sides.{view}
use Rattle.br_keeper.proofs.ShowingLaws.{opens}
use Rattle.br_keeper.proofs.LeadingLaws.{none_waits}
use Rattle.br_keeper.proofs.publisher.begin.Goals as goal

pub publish_as-writer-requires : goal.publish_as-writer-requires
publish_as-writer-requires g c next is = let w = c.in_ok-writer.writer in let made = c.in_ok-writer.ensures in
    let e = none_waits w.desk.shown.value.history w.desk.shown.value.front (drop w.behind w.log.items) next made.1 is in
    let none = ap (λ x. x.front.log) made.0 ∙ ap (λ b. b.log) c.again-2.ensures ∙ c.requires.none in
    opens w.desk.place.id (view w.desk.place) w.desk.shown.value next none (ap (λ b. b.log) e.1 ∙ none) (ap (λ b. b.book) e.1) e.0
