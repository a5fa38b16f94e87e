use Rattle.std.proofs.Common.{◌≡◌, Vec, Ok, Err, map, ap, subst, ◌∙◌}
use Rattle.std.specs.Global.{Global}
use Rattle.br_join.specs.Outcome.{restored}
use Rattle.br_data.specs.ManyDrives.{RereadingMany, driven_by}
use Rattle.br_sink.specs.Delivery.{items_in}
use Rattle.br_engine.specs.DeliveredAgain.{CanMake}
use Rattle.br_engine.proofs.AgainLaws.{fail_driven, many_is, stay_driven}
use Rattle.br_engine.proofs.EndLaws.{all_put, never_stops, some_put}
use Rattle.br_engine.proofs.StopLaws.{puts_if}
use Rattle.br_engine.proofs.made.deliver_by.Goals as goal

pub returns-in-Ok-clause-ends : goal.returns-in-Ok-clause-ends
returns-in-Ok-clause-ends g c =
    let shows = g.D.Drive.shows in
    let failures = g.D.Drive.failures in
    let m = c.new-many.result in
    let n = c.deliver_again-delivered.new.many in
    let e : m.drives ≡ driven_by shows failures c.args.drives.now.items =
    c.new-many.ensures.drives ∙ ap (λ (v : Vec g.row.D.Denot Global). driven_by shows failures v.items) c.replace-taken.ensures.value in
    let f : driven_by shows failures c.replace-none.new.dest.items ≡ n.drives =
    ap (λ (v : Vec g.row.D.Denot Global). driven_by shows failures v.items) c.replace-none.ensures.after ∙ c.into_drives.ensures in
    let gathered = c.args.source.now.gathered.now in
    let rs = map restored c.args.outcomes.now in
    let ds = driven_by shows failures c.args.drives.now.items in
    let gs = c.args.groups.now in
    let first = g.S.Sink.has c.args.sink.now in
    let second = g.S.Sink.has c.deliver_again-delivered.new.sink in
    let given = CanMake (record { drives = ds; groups = gs }) gathered rs in
    all_put given first second rs c.end_of.result
    (puts_if given (CanMake m gathered rs) (items_in c.args.outcomes.now) first second (Ok c.in-Ok.field-0)
    (subst (λ (k : RereadingMany). CanMake k gathered rs) (many_is m ds gs e c.new-many.ensures.groups)) c.in-Ok.ensures.put)
    c.in-Ok.ensures.all c.end_of.ensures

pub returns-in-Ok-clause-places : goal.returns-in-Ok-clause-places
returns-in-Ok-clause-places g c =
    let shows = g.D.Drive.shows in
    let failures = g.D.Drive.failures in
    let m = c.new-many.result in
    let n = c.deliver_again-delivered.new.many in
    let e : m.drives ≡ driven_by shows failures c.args.drives.now.items =
    c.new-many.ensures.drives ∙ ap (λ (v : Vec g.row.D.Denot Global). driven_by shows failures v.items) c.replace-taken.ensures.value in
    let f : driven_by shows failures c.replace-none.new.dest.items ≡ n.drives =
    ap (λ (v : Vec g.row.D.Denot Global). driven_by shows failures v.items) c.replace-none.ensures.after ∙ c.into_drives.ensures in
    stay_driven shows failures m n c.args.drives.now.items c.replace-none.new.dest.items e f c.deliver_again-delivered.ensures.on

pub returns-in-Err-clause-ends : goal.returns-in-Err-clause-ends
returns-in-Err-clause-ends g c =
    let shows = g.D.Drive.shows in
    let failures = g.D.Drive.failures in
    let m = c.new-many.result in
    let n = c.deliver_again-delivered.new.many in
    let e : m.drives ≡ driven_by shows failures c.args.drives.now.items =
    c.new-many.ensures.drives ∙ ap (λ (v : Vec g.row.D.Denot Global). driven_by shows failures v.items) c.replace-taken.ensures.value in
    let f : driven_by shows failures c.replace-none.new.dest.items ≡ n.drives =
    ap (λ (v : Vec g.row.D.Denot Global). driven_by shows failures v.items) c.replace-none.ensures.after ∙ c.into_drives.ensures in
    let gathered = c.args.source.now.gathered.now in
    let rs = map restored c.args.outcomes.now in
    let ds = driven_by shows failures c.args.drives.now.items in
    let gs = c.args.groups.now in
    let first = g.S.Sink.has c.args.sink.now in
    let second = g.S.Sink.has c.deliver_again-delivered.new.sink in
    let given = CanMake (record { drives = ds; groups = gs }) gathered rs in
    some_put given first second rs c.in-Err.stop
    (puts_if given (CanMake m gathered rs) (items_in c.args.outcomes.now) first second (Err c.in-Err.stop)
    (subst (λ (k : RereadingMany). CanMake k gathered rs) (many_is m ds gs e c.new-many.ensures.groups)) c.in-Err.ensures.put)
    c.in-Err.ensures.all c.in-Err.ensures.stopped

pub returns-in-Err-clause-places : goal.returns-in-Err-clause-places
returns-in-Err-clause-places g c =
    let shows = g.D.Drive.shows in
    let failures = g.D.Drive.failures in
    let m = c.new-many.result in
    let n = c.deliver_again-delivered.new.many in
    let e : m.drives ≡ driven_by shows failures c.args.drives.now.items =
    c.new-many.ensures.drives ∙ ap (λ (v : Vec g.row.D.Denot Global). driven_by shows failures v.items) c.replace-taken.ensures.value in
    let f : driven_by shows failures c.replace-none.new.dest.items ≡ n.drives =
    ap (λ (v : Vec g.row.D.Denot Global). driven_by shows failures v.items) c.replace-none.ensures.after ∙ c.into_drives.ensures in
    stay_driven shows failures m n c.args.drives.now.items c.replace-none.new.dest.items e f c.deliver_again-delivered.ensures.on

pub returns-in-Ok-clause-lost : goal.returns-in-Ok-clause-lost
returns-in-Ok-clause-lost g c = never_stops 70 _ (map restored c.args.outcomes.now) c.end_of.result c.end_of.ensures

pub returns-in-Ok-clause-changed : goal.returns-in-Ok-clause-changed
returns-in-Ok-clause-changed g c = never_stops 72 _ (map restored c.args.outcomes.now) c.end_of.result c.end_of.ensures

pub returns-in-Err-clause-lost : goal.returns-in-Err-clause-lost
returns-in-Err-clause-lost g c = λ at.
    let shows = g.D.Drive.shows in
    let failures = g.D.Drive.failures in
    let m = c.new-many.result in
    let n = c.deliver_again-delivered.new.many in
    let e : m.drives ≡ driven_by shows failures c.args.drives.now.items =
    c.new-many.ensures.drives ∙ ap (λ (v : Vec g.row.D.Denot Global). driven_by shows failures v.items) c.replace-taken.ensures.value in
    let f : driven_by shows failures c.replace-none.new.dest.items ≡ n.drives =
    ap (λ (v : Vec g.row.D.Denot Global). driven_by shows failures v.items) c.replace-none.ensures.after ∙ c.into_drives.ensures in
    fail_driven shows failures m n c.args.drives.now.items c.replace-none.new.dest.items e f (c.in-Err.ensures.lost at)

pub returns-in-Err-clause-changed : goal.returns-in-Err-clause-changed
returns-in-Err-clause-changed g c = λ at can.
    let shows = g.D.Drive.shows in
    let failures = g.D.Drive.failures in
    let m = c.new-many.result in
    let e : m.drives ≡ driven_by shows failures c.args.drives.now.items =
    c.new-many.ensures.drives ∙ ap (λ (v : Vec g.row.D.Denot Global). driven_by shows failures v.items) c.replace-taken.ensures.value in
    c.in-Err.ensures.changed at
    (subst (λ (k : RereadingMany). CanMake k c.args.source.now.gathered.now (map restored c.args.outcomes.now))
    (many_is m (driven_by shows failures c.args.drives.now.items) c.args.groups.now e c.new-many.ensures.groups) can)
