use Rattle.std.proofs.Common.{List, sym, subst, arith}
use Rattle.std.specs.List.{AllByRecursion, AllZip}
use Rattle.br_pool.specs.Sending.{HasRunSending, IsSetUpToSend}
use Rattle.br_pool.specs.declared.sender.Sender.{Sender}
use Rattle.br_pool.proofs.ListLaws.{all_at, zip_at, written}
use Rattle.br_pool.proofs.senders.run_all.Goals as goal

pub run_both-fine-requires-clause-ready : goal.run_both-fine-requires-clause-ready
run_both-fine-requires-clause-ready g c = λ κs lasts i d low.
    let round = c.args.sending.now.round.now in
    let claims = round.claims.now in
    let P : Sender g.row.D.Denot → Type 0 = IsSetUpToSend c.args.sending.now.line.now.table.shared.table_id claims.claims claims.limit in
    all_at P c.as_mut_slice.result.now i d low (subst (λ (l : List (Sender g.row.D.Denot)). AllByRecursion P l) (sym c.as_mut_slice.ensures.value) c.requires.ready)

pub returns-clause-ran : goal.returns-clause-ran
returns-clause-ran g c =
    let round = c.args.sending.now.round.now in
    let R : Sender g.row.D.Denot → Sender g.row.D.Denot → Type 0 =
    HasRunSending g.D.Drive.shows g.D.Drive.failures c.args.sending.now.line.now.table.shared.table_id round.claims.now.claims round.pieces.now round.left.now in
    let same = c.run_both-fine.auto.senders in
    subst (λ (l : List (Sender g.row.D.Denot)). AllZip R c.args.senders.items l)
    (sym (written c.args.senders.len c.run_both-fine.new.senders c.args.senders.items (let l = c.as_mut_slice.ensures.len in omega (arith, same, l))))
    (subst (λ (l : List (Sender g.row.D.Denot)). AllZip R l c.run_both-fine.new.senders) c.as_mut_slice.ensures.value
    (zip_at R c.as_mut_slice.result.now c.run_both-fine.new.senders (omega (arith, same)) c.run_both-fine.ensures.ran))
