use Rattle.std.proofs.Common.{ap, sym, ◌∙◌, drop}
use Rattle.left_right.specs.Sides.{view}
use Rattle.br_keeper.proofs.LeadingLaws.{each_some, writer_stored, none_is}
use Rattle.br_keeper.proofs.publisher.Publisher.add.Goals as goal

pub invariant_of-self-2 : goal.invariant_of-self-2
invariant_of-self-2 c = let k = c.self.inside in let next = c.if-not-add.ensures in (
  c.self.invariant.0 ∙ sym (ap (λ b. b.book) next),
  each_some k.writer _ _ c.self.invariant.1 (λ w h. writer_stored (view w.desk.place) w.desk.shown.value.history w.desk.shown.value.front (drop w.behind w.log.items) k.unsent k.opening.value k.shown k.jobs c.add.new.self
      (record { rows = c.args.rows; front = c.again-front.result }) (none_is k.unsent c.if-is_some.ensures) (c.again-front.ensures ∙ c.front-2.ensures) next h),
)
