use Rattle.std.proofs.lemmas.Result.{IfOk-weaker}
use Rattle.br_data.proofs.ManyLaws.{fail_after, have_still, stay_more}
use Rattle.br_data.proofs.reread_data.read_again.Goals as goal

pub returns-in-Err-Failed-clause-same : goal.returns-in-Err-Failed-clause-same
returns-in-Err-Failed-clause-same g c =
    IfOk-weaker c.read_by_another.result _ _
    (λ read same has.
    same
    (have_still g.D.Drive.shows g.D.Drive.failures c.standing_stays.ensures c.args.drives.now.items c.read_at.new.drives.items c.args.place.now c.args.found.now.bytes
    c.read_at.ensures.stay has))
    c.read_by_another.ensures.same

pub returns-in-Err-Failed-clause-stay : goal.returns-in-Err-Failed-clause-stay
returns-in-Err-Failed-clause-stay g c =
    stay_more g.D.Drive.shows g.D.Drive.failures c.args.drives.now.items c.read_at.new.drives.items c.read_by_another.new.drives.items c.read_at.ensures.stay
    c.read_by_another.ensures.stay

pub returns-in-Err-Failed-clause-changed : goal.returns-in-Err-Failed-clause-changed
returns-in-Err-Failed-clause-changed g c = λ is has.
    c.read_by_another.ensures.changed is
    (have_still g.D.Drive.shows g.D.Drive.failures c.standing_stays.ensures c.args.drives.now.items c.read_at.new.drives.items c.args.place.now c.args.found.now.bytes
    c.read_at.ensures.stay has)

pub returns-in-Err-Failed-clause-failed : goal.returns-in-Err-Failed-clause-failed
returns-in-Err-Failed-clause-failed g c = λ is.
    fail_after g.D.Drive.shows g.D.Drive.failures c.args.drives.now.items c.read_at.new.drives.items c.read_by_another.new.drives.items c.read_at.ensures.stay
    (c.read_by_another.ensures.failed is)
