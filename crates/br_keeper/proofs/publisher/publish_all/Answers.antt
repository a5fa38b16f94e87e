use Rattle.std.proofs.Common.{sym, ap, ◌∙◌, drop, ◌++◌}
use Rattle.left_right.specs.Sides.{view}
use Rattle.br_keeper.specs.Writers.{listed}
use Rattle.br_keeper.proofs.LeadingLaws.{publish_step, published_is, writer_on, nothing_more, none_waiting}
use Rattle.br_keeper.proofs.publisher.publish_all.Goals as goal

pub publish_as-writer-requires : goal.publish_as-writer-requires
publish_as-writer-requires g c next is = let w = c.send-writer.result.0 in let d = c.send-writer.ensures.desk in
    publish_step w.desk.place.id (view w.desk.place) w.desk.shown.value (drop w.behind w.log.items) c.args.opening.now.value c.args.shown.now c.args.front.now next
    (writer_on (view c.args.writer.desk.place) (view w.desk.place) c.args.writer.desk.shown.value.history w.desk.shown.value.history c.args.writer.desk.shown.value.front w.desk.shown.value.front
    (drop c.args.writer.behind c.args.writer.log.items ++ listed c.args.unsent) (drop w.behind w.log.items) c.args.opening.now.value c.args.shown.now c.args.front.now
    (ap (λ d. view d.place) d) (ap (λ d. d.shown.value.history) d) (ap (λ d. d.shown.value.front) d) (sym (nothing_more c.send-writer.result.1 (drop w.behind w.log.items) c.if-is_some.ensures) ∙ c.send-writer.ensures.waits) c.requires)
    is

pub returns-in-Ok : goal.returns-in-Ok
returns-in-Ok g c = let w = c.send-writer.result.0 in let d = c.send-writer.ensures.desk in let y = c.publish_as-writer.result.0 in
    let values = rw c.in-Ok.is at c.publish_as-writer.ensures.values in let rule = rw c.in-Ok.is at c.publish_as-writer.ensures.rule in
    let was = writer_on (view c.args.writer.desk.place) (view w.desk.place) c.args.writer.desk.shown.value.history w.desk.shown.value.history c.args.writer.desk.shown.value.front w.desk.shown.value.front
    (drop c.args.writer.behind c.args.writer.log.items ++ listed c.args.unsent) (drop w.behind w.log.items) c.args.opening.now.value c.args.shown.now c.args.front.now
    (ap (λ d. view d.place) d) (ap (λ d. d.shown.value.history) d) (ap (λ d. d.shown.value.front) d) (sym (nothing_more c.send-writer.result.1 (drop w.behind w.log.items) c.if-is_some.ensures) ∙ c.send-writer.ensures.waits) c.requires in
    let p = published_is (view w.desk.place) w.desk.shown.value.history w.desk.shown.value.front (drop w.behind w.log.items) c.args.opening.now.value c.args.shown.now c.args.front.now y.desk.shown.value was values.0 in
    record {
      knows = rule ∙ was.knows;
      now_is = p.1;
      jobs_are = p.0;
      leads = none_waiting c.args.front.now (drop y.behind y.log.items) c.send-writer.result.1 values.1 c.if-is_some.ensures;
    }
