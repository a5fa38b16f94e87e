use Rattle.std.proofs.Common.{◌≡◌, Some, None, Ok, Err, List, [], ◌∷◌, ◌++◌, refl, sym, subst, ◌∙◌, arith}
use Rattle.std.proofs.lemmas.Result.{err_from_is_err_and}
use Rattle.std.specs.Prelude.{⊤}
use Rattle.br_model.specs.Meaning.{Piece, Hit, hits_on}
use Rattle.br_match.specs.Come.{AllComeTo}
use Rattle.br_match.specs.Walk.{AfterWalk, BlockGiven, Follows}
use Rattle.br_volume.proofs.ExtendLaws.{grows_itself, grows_more}
use Rattle.br_match.proofs.OverLaws.{over_any, over_join}
use Rattle.br_pool.specs.Gathering.{Pushes}
use Rattle.br_pool.specs.Outlets.{outlet_view}
use Rattle.br_pool.specs.Sending.{AreIn, SaysSent}
use Rattle.br_pool.specs.declared.batch_queue.Crew.{Crew}
use Rattle.br_pool.proofs.GatheringLaws.{pushes_none, pushes_on}
use Rattle.br_pool.proofs.SendingLaws.{WalksOn, walk_is_over, walk_stops, walks_first, walks_on}
use Rattle.br_pool.proofs.sender.send_piece.Goals as goal

pub loop-walk-init : goal.loop-walk-init
loop-walk-init g c =
    let piece = c.args.piece.now in
    let shows = g.D.Drive.shows c.args.drive.now in
    let a = c.in_ok-walk.walk.addr in
    record {
      of = c.in_ok-walk.ensures.of;
      pass = (refl, refl);
      sent = ([], pushes_none (outlet_view c.args.outlet.now), over_any shows shows piece (WalksOn piece a []) (walks_first piece a c.in_ok-walk.ensures.start));
      grows = grows_itself shows;
      counted = omega arith;
    }

pub loop-walk-preserved : goal.loop-walk-preserved
loop-walk-preserved g c =
    let piece = c.args.piece.now in
    let l = c.loop-walk in
    let i = l.invariant.sent in
    let a = l.walk.addr in
    let next = c.next.new.self.addr in
    let batch = c.in-Some.batch in
    let first = g.D.Drive.shows c.args.drive.now in
    let second = g.D.Drive.shows l.drive in
    let third = g.D.Drive.shows c.next.new.drive in
    let answer : AfterWalk second third l.walk.piece.now a (BlockGiven l.walk.piece.now a next (Ok (Some batch))) = rw (c.in-Some.is) at c.in_ok-batch.ensures.hits in
    let step = subst (λ (q : Piece). AfterWalk second third q a (BlockGiven q a next (Ok (Some batch)))) l.invariant.of answer in
    record {
      of = c.next.ensures.of ∙ l.invariant.of;
      pass = (c.send_hits.ensures.pass.0 ∙ sym c.requires.pass.0, c.send_hits.ensures.pass.1 ∙ sym c.requires.pass.1);
      sent = (
        i.0 ++ batch.hits.items,
        pushes_on (outlet_view c.args.outlet.now) (outlet_view l.outlet) (outlet_view c.send_hits.new.outlet) i.0 batch.hits.items i.1 c.in_ok-send_hits.ensures.sent,
        over_join first second third piece (WalksOn piece a i.0) (λ volumes. Follows volumes piece a → BlockGiven piece a next (Ok (Some batch)) volumes)
            (WalksOn piece next (i.0 ++ batch.hits.items)) l.invariant.grows c.next.ensures.grows i.2 step (walks_on piece a next i.0 batch),
      );
      grows = grows_more first second third l.invariant.grows c.next.ensures.grows;
      counted = omega (arith, l.invariant.counted, c.next.ensures.counted);
    }

pub returns-in_err-batch-clause-sent : goal.returns-in_err-batch-clause-sent
returns-in_err-batch-clause-sent g c =
    let piece = c.args.piece.now in
    let l = c.loop-walk in
    let i = l.invariant.sent in
    let a = l.walk.addr in
    let next = c.next.new.self.addr in
    let e = c.in_err-batch.field-0.0 in
    let first = g.D.Drive.shows c.args.drive.now in
    let second = g.D.Drive.shows l.drive in
    let third = g.D.Drive.shows c.next.new.drive in
    let p = err_from_is_err_and c.from_residual-in_err-batch.result c.from_residual-in_err-batch.ensures.1 in
    let step = subst (λ (q : Piece). AfterWalk second third q a (BlockGiven q a next (Err e))) l.invariant.of c.in_err-batch.ensures.hits in
    rw (p.1, p.2) (
      i.0,
      i.1,
      over_join first second third piece (WalksOn piece a i.0) (λ volumes. Follows volumes piece a → BlockGiven piece a next (Err e) volumes)
          (λ volumes. AllComeTo volumes (piece ∷ []) i.0 × SaysSent volumes i.0 piece (Err e)) l.invariant.grows c.next.ensures.grows i.2 step (walk_stops piece a next i.0 e),
    )

pub returns-in_err-batch-clause-grows : goal.returns-in_err-batch-clause-grows
returns-in_err-batch-clause-grows g c =
    grows_more (g.D.Drive.shows c.args.drive.now) (g.D.Drive.shows c.loop-walk.drive) (g.D.Drive.shows c.next.new.drive) c.loop-walk.invariant.grows c.next.ensures.grows

pub returns-clause-sent : goal.returns-clause-sent
returns-clause-sent g c =
    let piece = c.args.piece.now in
    let l = c.loop-walk in
    let i = l.invariant.sent in
    let a = l.walk.addr in
    let next = c.next.new.self.addr in
    let first = g.D.Drive.shows c.args.drive.now in
    let second = g.D.Drive.shows l.drive in
    let third = g.D.Drive.shows c.next.new.drive in
    let answer : AfterWalk second third l.walk.piece.now a (BlockGiven l.walk.piece.now a next (Ok None)) = rw (c.in_default.is) at c.in_ok-batch.ensures.hits in
    let step = subst (λ (q : Piece). AfterWalk second third q a (BlockGiven q a next (Ok None))) l.invariant.of answer in (
      i.0,
      i.1,
      over_join first second third piece (WalksOn piece a i.0) (λ volumes. Follows volumes piece a → BlockGiven piece a next (Ok None) volumes)
          (λ volumes. AllComeTo volumes (piece ∷ []) i.0 × ((all : List Hit) × (hits_on volumes piece ≡ Ok all) × AreIn all i.0)) l.invariant.grows c.next.ensures.grows i.2 step
          (walk_is_over piece a next i.0),
    )

pub returns-clause-grows : goal.returns-clause-grows
returns-clause-grows g c =
    grows_more (g.D.Drive.shows c.args.drive.now) (g.D.Drive.shows c.loop-walk.drive) (g.D.Drive.shows c.next.new.drive) c.loop-walk.invariant.grows c.next.ensures.grows

pub returns-in_err-walk-clause-sent : goal.returns-in_err-walk-clause-sent
returns-in_err-walk-clause-sent g c =
    let piece = c.args.piece.now in
    let shows = g.D.Drive.shows c.args.drive.now in
    let p = err_from_is_err_and c.from_residual.result c.from_residual.ensures.1 in
    rw (p.1, p.2) ([], pushes_none (outlet_view c.args.outlet.now), over_any shows shows piece (λ volumes. AllComeTo volumes (piece ∷ []) [] × ⊤) (λ volumes. (tt, tt)))

-- there was no memory to keep a batch
pub returns-in_err-send_hits-clause-sent : goal.returns-in_err-send_hits-clause-sent
returns-in_err-send_hits-clause-sent g c =
    let piece = c.args.piece.now in
    let l = c.loop-walk in
    let i = l.invariant.sent in
    let a = l.walk.addr in
    let first = g.D.Drive.shows c.args.drive.now in
    let second = g.D.Drive.shows l.drive in
    let third = g.D.Drive.shows c.next.new.drive in
    let p = err_from_is_err_and c.from_residual-in_err-send_hits.result c.from_residual-in_err-send_hits.ensures.1 in
    rw (p.1, p.2) (
      i.0,
      subst (λ (w : Crew). Pushes (outlet_view c.args.outlet.now) w i.0) (sym c.in_err-send_hits.ensures.same) i.1,
      over_join first second third piece (WalksOn piece a i.0) (λ volumes. ⊤) (λ volumes. AllComeTo volumes (piece ∷ []) i.0 × ⊤) l.invariant.grows c.next.ensures.grows i.2
          (over_any second third piece (λ volumes. ⊤) (λ volumes. tt)) (λ volumes walks _. (walks.2, tt)),
    )

pub returns-in_err-send_hits-clause-grows : goal.returns-in_err-send_hits-clause-grows
returns-in_err-send_hits-clause-grows g c =
    grows_more (g.D.Drive.shows c.args.drive.now) (g.D.Drive.shows c.loop-walk.drive) (g.D.Drive.shows c.next.new.drive) c.loop-walk.invariant.grows c.next.ensures.grows
