use Rattle.br_keeper.proofs.ListingLaws.{knows_stored}
use Rattle.br_keeper.proofs.stored_jobs.Listing.compare.Goals as goal

pub returns-clause-shown : goal.returns-clause-shown
returns-clause-shown c =
    rw (← c.self.view_is) (knows_stored c.self.inside.publisher c.self.inside.waiting c.args.session.now.list c.self.invariant c.compare.ensures.begins)
