-- A run by example: what was read is taken from the last batch to the first, and delivered; and the
-- headline applies to the run, with nothing asked of the volumes.
use Rattle.std.proofs.Common.{◌≡◌, List, [], ◌∷◌, ◌++◌, map, Some, None, Ok, refl, sym, ap, ◌∙◌}
use Rattle.std.specs.Prelude.{codes}
use Rattle.std.specs.FinMap.{empty, entries}
use Rattle.br_model.specs.Order.{put_all}
use Rattle.br_model.specs.Block.{Fragment}
use Rattle.br_model.specs.Meaning.{Hit, Hits, hit_cmp, hit_entry, with_hits}
use Rattle.br_model.specs.Restored.{Restored, HitList, files, files_listed}
use Rattle.br_model.proofs.HitLaws.{hit_cmp_total}
use Rattle.br_model.proofs.OrderLaws.{put_all-entries}
use Rattle.br_model.proofs.ListLaws.{none_in}
use Rattle.br_core.specs.Machine.{World, Event, Reply, IsStep, IsRun}
use Rattle.br_core.specs.Machine.Status.{Waiting, Finished}
use Rattle.br_core.specs.Machine.Event.{Commit, Plan, Claim, Read, Fail, Finish, Take, Deliver, ReadFinds, FinishFinds}
use Rattle.br_core.specs.Machine.Reply.{Done, Planned, Refused, Delivered}
use Rattle.br_core.specs.Laws.{WasPlanned, OldOnesHold, IsRestored}
use Rattle.br_core.proofs.RunLaws.{headline_lem}
use Rattle.br_core.proofs.JobExamples.{key, saved, to_commit, volumes, job, nothing, committed, begins, commits}
use Rattle.br_core.proofs.PlanExamples.{request, script, plan, restore, going, plans, later}
use Rattle.br_core.proofs.ReadExamples.{in_0, in_1, in_2, stepping, refuses, claims, reads, fails, claims_again, reads_again, finishes, claims_other, reads_other, reads_on, finishes_other}

-- ---- the takes, from the last batch to the first

taken_1 : Hits
taken_1 = with_hits empty in_2

taken_2 : Hits
taken_2 = with_hits taken_1 in_1

taken_3 : Hits
taken_3 = with_hits taken_2 in_0

taken_4 : Hits
taken_4 = with_hits taken_3 in_0

read_whole : List (List Hit) → Hits → World
read_whole transit taken = going (Finished ∷ Finished ∷ []) transit taken

unfoldable taking : Unit {0}
unfolding taken_1 taken_2 taken_3 taken_4 read_whole stepping
taking = tt

takes_3 : IsStep (read_whole (in_0 ∷ in_0 ∷ in_1 ∷ in_2 ∷ []) empty) (Take 0 3) Done (read_whole (in_0 ∷ in_0 ∷ in_1 ∷ []) taken_1)
unfolding taking
takes_3 = (restore _ (in_0 ∷ in_0 ∷ in_1 ∷ in_2 ∷ []) empty, restore (Finished ∷ Finished ∷ []) (in_0 ∷ in_0 ∷ in_1 ∷ []) taken_1, refl, record { batch = in_2; under_way = refl; after_is = refl }, refl)

takes_2 : IsStep (read_whole (in_0 ∷ in_0 ∷ in_1 ∷ []) taken_1) (Take 0 2) Done (read_whole (in_0 ∷ in_0 ∷ []) taken_2)
unfolding taking
takes_2 = (restore _ (in_0 ∷ in_0 ∷ in_1 ∷ []) taken_1, restore (Finished ∷ Finished ∷ []) (in_0 ∷ in_0 ∷ []) taken_2, refl, record { batch = in_1; under_way = refl; after_is = refl }, refl)

takes_1 : IsStep (read_whole (in_0 ∷ in_0 ∷ []) taken_2) (Take 0 1) Done (read_whole (in_0 ∷ []) taken_3)
unfolding taking
takes_1 = (restore _ (in_0 ∷ in_0 ∷ []) taken_2, restore (Finished ∷ Finished ∷ []) (in_0 ∷ []) taken_3, refl, record { batch = in_0; under_way = refl; after_is = refl }, refl)

takes_0 : IsStep (read_whole (in_0 ∷ []) taken_3) (Take 0 0) Done (read_whole [] taken_4)
unfolding taking
takes_0 = (restore _ (in_0 ∷ []) taken_3, restore (Finished ∷ Finished ∷ []) [] taken_4, refl, record { batch = in_0; under_way = refl; after_is = refl }, refl)

-- ---- the delivery

-- what a set with more hits lists
lists : (held : Hits) (listed : HitList) (found : List Hit) → entries held ≡ listed → entries (with_hits held found) ≡ put_all hit_cmp (listed ++ map hit_entry found)
lists held listed found e =
    sym (put_all-entries hit_cmp_total (entries held ++ map hit_entry found)) ∙ ap (λ (es : HitList). put_all hit_cmp (es ++ map hit_entry found)) e

lists_nothing : ◌≡◌ {A = HitList} (entries {X = Fragment} {R = hit_cmp} empty) []
unfolding put_all
lists_nothing = sym (put_all-entries {X = Fragment} hit_cmp_total [])

-- the four hits in order of place, each once
lists_all : entries taken_4 ≡ map hit_entry (in_0 ++ in_1 ++ in_2)
unfolding taking
lists_all = lists taken_3 _ in_0 (lists taken_2 _ in_0 (lists taken_1 _ in_1 (lists empty [] in_2 lists_nothing)))

-- one file, with the bytes that were saved
the_file : Restored
the_file = record {
  key = record { session = key; index = 1 };
  outcome = Ok (record { path = codes "/a"; kind = 3; stat = saved.stat; link = []; bytes = codes "message digest"; skipped = 0 });
}

files_are : the_file ∷ [] ≡ files taken_4 (Some plan.names)
unfolding the_file taking
files_are = sym (ap (λ (es : HitList). files_listed es (Some plan.names)) lists_all)

over : World
over = record { jobs = job ∷ []; volumes = volumes; earlier = [] ∷ []; restores = None ∷ [] }

delivers : IsStep (read_whole [] taken_4) (Deliver 0) (Delivered (the_file ∷ [])) over
unfolding over taking
delivers = (restore (Finished ∷ Finished ∷ []) [] taken_4, refl, record { finished = (refl, (refl, tt)); none = refl }, files_are, refl)

-- ---- the whole run, to which the laws apply

between : List Event
between =
    Deliver 0 ∷ Claim 0 0 ∷ Read 0 0 1 ∷ Fail 0 0 ∷ Claim 0 0 ∷ ReadFinds 0 0 later ∷ Finish 0 0 ∷ Claim 0 1 ∷ Read 0 1 1 ∷ ReadFinds 0 1 later
    ∷ FinishFinds 0 1 later ∷ Take 0 3 ∷ Take 0 2 ∷ Take 0 1 ∷ Take 0 0 ∷ []

events : List Event
events = Commit to_commit ∷ Plan request script ∷ between

replies : List Reply
replies = Refused 59 ∷ Done ∷ Done ∷ Done ∷ Done ∷ Done ∷ Done ∷ Done ∷ Done ∷ Done ∷ Done ∷ Done ∷ Done ∷ Done ∷ Done ∷ []

runs_between : IsRun (going (Waiting ∷ Waiting ∷ []) [] empty) between replies (read_whole [] taken_4)
unfolding between replies read_whole
runs_between = (_, refuses, (_, claims, (_, reads, (_, fails, (_, claims_again, (_, reads_again, (_, finishes, (_, claims_other, (_, reads_other, (_, reads_on, (_, finishes_other, (_, takes_3, (_, takes_2, (_, takes_1, (_, takes_0, refl)))))))))))))))

runs : IsRun nothing events (Done ∷ Planned 0 ∷ replies) (read_whole [] taken_4)
unfolding events
runs = (committed, commits, (going (Waiting ∷ Waiting ∷ []) [] empty, plans, runs_between))

-- by the headline the restore was planned, and since its job was committed in the run, nothing is
-- asked of the volumes: the file is the copy of the selected entry
was_planned : WasPlanned nothing (read_whole [] taken_4) events (Done ∷ Planned 0 ∷ replies) 0
was_planned = (headline_lem nothing (read_whole [] taken_4) over events (Done ∷ Planned 0 ∷ replies) 0 (the_file ∷ []) begins runs delivers).0

-- no job was there before the first step
none_before : OldOnesHold nothing was_planned.moment was_planned.chosen
unfolding nothing
none_before j among is_chosen = absurd (none_in j among)

is_restored : IsRestored was_planned.moment was_planned.chosen was_planned.script was_planned.plan (the_file ∷ [])
is_restored =
    (headline_lem nothing (read_whole [] taken_4) over events (Done ∷ Planned 0 ∷ replies) 0 (the_file ∷ []) begins runs delivers).1 was_planned none_before
