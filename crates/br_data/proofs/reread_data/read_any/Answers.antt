use Rattle.std.proofs.Common.{Err, ap, arith, ◌∙◌}
use Rattle.br_data.proofs.ManyLaws.{all_failed, fail_more, have_still, stay, stay_more}
use Rattle.br_data.proofs.reread_data.read_any.Goals as goal

pub loop-at-init : goal.loop-at-init
loop-at-init g c = record { stay = stay g.D.Drive.shows g.D.Drive.failures c.args.drives.now.items; failed = tt }

pub returns-in-Ok-clause-same : goal.returns-in-Ok-clause-same
returns-in-Ok-clause-same g c = λ has.
    c.in-Ok.ensures.same
    (have_still g.D.Drive.shows g.D.Drive.failures c.standing_stays.ensures c.args.drives.now.items c.loop-at.drives.items c.args.place.now c.args.found.now.bytes
    c.loop-at.invariant.stay has)

pub returns-in-Ok-clause-stay : goal.returns-in-Ok-clause-stay
returns-in-Ok-clause-stay g c =
    stay_more g.D.Drive.shows g.D.Drive.failures c.args.drives.now.items c.loop-at.drives.items c.read_at.new.drives.items c.loop-at.invariant.stay c.read_at.ensures.stay

pub returns-in-Err-Changed-clause-changed : goal.returns-in-Err-Changed-clause-changed
returns-in-Err-Changed-clause-changed g c = λ is has.
    c.read_at.ensures.changed (c.in-Err-Changed.is ∙ ap Err c.in-Err-Changed.field-0-is)
    (have_still g.D.Drive.shows g.D.Drive.failures c.standing_stays.ensures c.args.drives.now.items c.loop-at.drives.items c.args.place.now c.args.found.now.bytes
    c.loop-at.invariant.stay has)

pub returns-in-Err-Memory-clause-stay : goal.returns-in-Err-Memory-clause-stay
returns-in-Err-Memory-clause-stay g c =
    stay_more g.D.Drive.shows g.D.Drive.failures c.args.drives.now.items c.loop-at.drives.items c.read_at.new.drives.items c.loop-at.invariant.stay c.read_at.ensures.stay

pub returns-in-Err-Changed-clause-stay : goal.returns-in-Err-Changed-clause-stay
returns-in-Err-Changed-clause-stay g c =
    stay_more g.D.Drive.shows g.D.Drive.failures c.args.drives.now.items c.loop-at.drives.items c.read_at.new.drives.items c.loop-at.invariant.stay c.read_at.ensures.stay

pub loop-at-preserved : goal.loop-at-preserved
loop-at-preserved g c =
    let shows = g.D.Drive.shows in
    let failures = g.D.Drive.failures in
    let before = c.args.drives.now.items in
    let mid = c.loop-at.drives.items in
    let after = c.read_at.new.drives.items in
    let at_it = c.read_at.ensures.failed (c.in-Err-Failed.is ∙ ap Err c.in-Err-Failed.field-0-is) in record {
      stay = stay_more shows failures before mid after c.loop-at.invariant.stay c.read_at.ensures.stay;
      failed = fail_more shows failures c.loop-at.at before mid after c.loop-at.invariant.stay c.read_at.ensures.stay c.loop-at.invariant.failed at_it;
    }

pub returns-clause-failed : goal.returns-clause-failed
returns-clause-failed g c = λ is.
    all_failed g.D.Drive.shows g.D.Drive.failures c.loop-at.at c.args.drives.now.items c.loop-at.drives.items c.loop-at.invariant.stay
    (omega (arith, c.loop-at-test.false, c.len-at-end.ensures)) c.loop-at.invariant.failed
