use Rattle.std.proofs.Common.{arith, length, refl}
use Rattle.std.proofs.lemmas.Option.{slice_get_read, slice_get_within}
use Rattle.br_data.proofs.ManyLaws.{fails_set, known_set, stay, stay_set}
use Rattle.br_data.proofs.reread_data.read_at.Goals as goal

pub returns-in-None-clause-stay : goal.returns-in-None-clause-stay
returns-in-None-clause-stay g c = stay g.D.Drive.shows g.D.Drive.failures c.args.drives.now.items

pub returns-in-None-clause-failed : goal.returns-in-None-clause-failed
returns-in-None-clause-failed g c = λ is x y at behind.
    let within = slice_get_within c.args.drives.now.items c.args.at x at in
    absurd (omega (arith, within, c.in-None.ensures.item))

pub returns-in-Some-clause-known : goal.returns-in-Some-clause-known
returns-in-Some-clause-known g c =
    let before = c.args.drives.now.items in
    let there = slice_get_read before (length before) c.args.at c.in-Some.drive.now refl c.in-Some.ensures.item.3.0 c.in-Some.ensures.item.1 in
    known_set g.D.Drive.shows g.D.Drive.failures before c.args.at c.in-Some.drive.now c.read_by.new.drive c.read_by.new.again there c.read_by.ensures.known

pub returns-in-Some-clause-stay : goal.returns-in-Some-clause-stay
returns-in-Some-clause-stay g c =
    let before = c.args.drives.now.items in
    let there = slice_get_read before (length before) c.args.at c.in-Some.drive.now refl c.in-Some.ensures.item.3.0 c.in-Some.ensures.item.1 in
    stay_set g.D.Drive.shows g.D.Drive.failures before c.args.at c.in-Some.drive.now c.read_by.new.drive there (c.read_by.ensures.grows, c.read_by.ensures.counted)

pub returns-in-Some-clause-failed : goal.returns-in-Some-clause-failed
returns-in-Some-clause-failed g c = λ is.
    let before = c.args.drives.now.items in
    let there = slice_get_read before (length before) c.args.at c.in-Some.drive.now refl c.in-Some.ensures.item.3.0 c.in-Some.ensures.item.1 in
    fails_set g.D.Drive.shows g.D.Drive.failures before c.args.at c.in-Some.drive.now c.read_by.new.drive there (c.read_by.ensures.failed is)
