-- Events and replies of the running machine, seen as those of the relation.
use Rattle.std.specs.Prelude.{map}
use Rattle.br_mark.specs.Said.{said}
use Rattle.br_join.specs.Outcome.{restored}
use Rattle.br_core.specs.Machine as machine
use Rattle.br_core.specs.Machine.Event.{Commit, Plan, Claim, Read, Fail, Finish, Take, Deliver}
use Rattle.br_core.specs.Machine.Reply.{Done, Planned, Refused, Delivered}
use Rattle.br_core.specs.declared.event.Event.{Event}
use Rattle.br_core.specs.declared.event.Event.TheVariants as coming
use Rattle.br_core.specs.declared.event.Reply.{Reply}
use Rattle.br_core.specs.declared.event.Reply.TheVariants as given

-- the event of the relation
abbrev pub event_of : Event → machine.Event
event_of (coming.Commit job) = Commit job
event_of (coming.Plan request script) = Plan request (map said script.items)
event_of (coming.Claim plan piece) = Claim plan piece
event_of (coming.Read plan piece commits) = Read plan piece commits
event_of (coming.Fail plan piece) = Fail plan piece
event_of (coming.Finish plan piece) = Finish plan piece
event_of (coming.Take plan place) = Take plan place
event_of (coming.Deliver plan) = Deliver plan

-- the reply of the relation
abbrev pub reply_of : Reply → machine.Reply
reply_of given.Done = Done
reply_of (given.Planned number) = Planned number
reply_of (given.Refused number) = Refused number
reply_of (given.Delivered files) = Delivered (map restored files.items)
