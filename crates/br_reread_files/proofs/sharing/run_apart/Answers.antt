use Rattle.std.proofs.Common.{refl, ◌∙◌, arith}
use Rattle.br_reread_files.proofs.SharingLaws.{many_dealt, on_itself, one_dealt, run_begun, run_on, run_one, runs_back, same_back}
use Rattle.br_reread_files.proofs.TurnLaws.{zip_length}
use Rattle.br_reread_files.proofs.sharing.run_apart.Goals as goal

pub returns-in_err-done-clause-on : goal.returns-in_err-done-clause-on
returns-in_err-done-clause-on g c = on_itself g.D.Drive.shows g.D.Drive.failures c.args.groups.now c.args.drives.now.items c.args.drives.now.items refl

pub returns-in_err-shares-clause-on : goal.returns-in_err-shares-clause-on
returns-in_err-shares-clause-on g c = on_itself g.D.Drive.shows g.D.Drive.failures c.args.groups.now c.args.drives.now.items c.args.drives.now.items refl

pub out_of_shares-requires-clause-one : goal.out_of_shares-requires-clause-one
out_of_shares-requires-clause-one g c =
    run_one g.D.Drive.shows g.D.Drive.failures c.args.groups.now c.into_shares.new.shares.items c.run_all-shares.result.items c.into_shares.new.drives.items c.args.drives.now.items
    c.in-Ok.ensures.none c.into_shares.ensures.drives c.run_all-shares.ensures

pub out_of_shares-requires-clause-room : goal.out_of_shares-requires-clause-room
out_of_shares-requires-clause-room g c =
    let dealt = many_dealt g.D.Drive.shows g.D.Drive.failures c.args.groups.now c.into_shares.new.shares.items c.into_shares.new.drives.items c.args.drives.now.items c.into_shares.ensures.drives in
    let ran = zip_length _ c.into_shares.new.shares.items c.run_all-shares.result.items c.run_all-shares.ensures in
    let many = c.requires.many in
    let room = c.into_shares.ensures.room in
    let done = c.in_ok-done.ensures.capacity in
    let count = c.len.ensures in
    let works = c.args.works.ok.0 in
    let e = c.args.drives.now.ok in
    (omega (arith, dealt, ran, room, e.0, e.1), omega (arith, dealt, ran, many, done, count, works))

pub returns-in-Ok-clause-runs : goal.returns-in-Ok-clause-runs
returns-in-Ok-clause-runs g c =
    runs_back g.D.Drive.shows g.D.Drive.failures c.args.groups.now c.into_shares.new.shares.items c.run_all-shares.result.items c.args.works.items c.out_of_shares.new.works.items
    c.in-Ok.ensures.works c.run_all-shares.ensures c.out_of_shares.ensures.works

pub returns-in-Ok-clause-begun : goal.returns-in-Ok-clause-begun
returns-in-Ok-clause-begun g c = λ given.
    run_begun g.D.Drive.shows g.D.Drive.failures c.args.groups.now c.into_shares.new.shares.items c.run_all-shares.result.items c.into_shares.new.drives.items c.args.drives.now.items
    c.args.works.items c.out_of_shares.new.works.items c.in-Ok.ensures.none c.into_shares.ensures.drives c.in-Ok.ensures.works c.requires.none c.run_all-shares.ensures c.out_of_shares.ensures.works given

pub returns-in-Ok-clause-on : goal.returns-in-Ok-clause-on
returns-in-Ok-clause-on g c =
    run_on g.D.Drive.shows g.D.Drive.failures c.args.groups.now c.into_shares.new.shares.items c.run_all-shares.result.items c.into_shares.new.drives.items c.args.drives.now.items
    c.out_of_shares.new.drives.items c.in-Ok.ensures.none c.into_shares.ensures.drives c.out_of_shares.ensures.drives c.run_all-shares.ensures

pub out_of_shares-requires-in-Err-clause-one : goal.out_of_shares-requires-in-Err-clause-one
out_of_shares-requires-in-Err-clause-one g c =
    one_dealt g.D.Drive.shows g.D.Drive.failures c.args.groups.now c.into_shares.new.shares.items c.into_shares.new.drives.items c.args.drives.now.items c.into_shares.ensures.drives

pub out_of_shares-requires-in-Err-clause-room : goal.out_of_shares-requires-in-Err-clause-room
out_of_shares-requires-in-Err-clause-room g c =
    let dealt = many_dealt g.D.Drive.shows g.D.Drive.failures c.args.groups.now c.into_shares.new.shares.items c.into_shares.new.drives.items c.args.drives.now.items c.into_shares.ensures.drives in
    let many = c.requires.many in
    let room = c.into_shares.ensures.room in
    let done = c.in_ok-done.ensures.capacity in
    let count = c.len.ensures in
    let works = c.args.works.ok.0 in
    let e = c.args.drives.now.ok in
    (omega (arith, dealt, room, e.0, e.1), omega (arith, dealt, many, done, count, works))

pub returns-clause-on : goal.returns-clause-on
returns-clause-on g c =
    on_itself g.D.Drive.shows g.D.Drive.failures c.args.groups.now c.args.drives.now.items c.out_of_shares-in-Err.new.drives.items
    (same_back g.D.Drive.shows g.D.Drive.failures c.args.groups.now c.args.drives.now.items c.out_of_shares-in-Err.new.drives.items (c.out_of_shares-in-Err.ensures.drives ∙ c.into_shares.ensures.drives))
