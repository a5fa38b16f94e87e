use Rattle.std.proofs.Common.{◌≡◌, true}
use Rattle.br_data.specs.KnownBlocks.{GivesBytes, knows}
use Rattle.br_data.proofs.KnownLaws.{gone_if_none, ready_if_known}
use Rattle.br_data.proofs.ReadLaws.{on_ok_then}
use Rattle.br_data.proofs.reread_blocks.Again.prepare.Goals as goal

pub returns-clause-same : goal.returns-clause-same
returns-clause-same g c =
    let earlier = g.D.Drive.shows c.args.drive.now in
    let later = g.D.Drive.shows c.fetch.new.drive in
    let place = c.args.place.now in
    let known = c.fetch.new.self in
    on_ok_then c.fetch.result (knows place known ≡ true) (GivesBytes earlier place c.args.found.now known) c.fetch.ensures.fetched
    (ready_if_known earlier later place c.args.found.now known c.fetch.ensures.grows c.fetch.ensures.known)

pub returns-clause-gone : goal.returns-clause-gone
returns-clause-gone g c = gone_if_none (g.D.Drive.shows c.args.drive.now) c.args.place.now c.fetch.result c.fetch.ensures.gone
