use Rattle.std.proofs.Common.{Some, None, Ok, Err, refl, subst, ◌∙◌, arith}
use Rattle.std.specs.Prelude.{⊤}
use Rattle.std.proofs.lemmas.Result.{err_from_is_err_and}
use Rattle.br_model.specs.Meaning.{Piece}
use Rattle.br_match.specs.Fault.{cause, IsAt}
use Rattle.br_match.specs.Matching.{AnswersPiece}
use Rattle.br_match.specs.Walk.{AfterWalk, BlockGiven, ComesTo, Follows, IsWalked}
use Rattle.br_match.proofs.FoundLaws.{walk_begins, comes_at_first, comes_further, walk_follows, walk_goes_on, walk_ends, walk_refused, found_over}
use Rattle.br_volume.proofs.ExtendLaws.{grows_itself, grows_more}
use Rattle.br_match.proofs.OverLaws.{over_any, over_both, over_join}
use Rattle.br_check.proofs.search.search_piece.Goals as goal

pub loop-walk-init : goal.loop-walk-init
loop-walk-init g c =
    let piece = c.args.piece.now in
    let shows = g.D.Drive.shows c.args.drive.now in
    let a = c.in_ok-walk.walk.addr in
    let hits = c.new-hits.result.items in
    record {
      of = c.in_ok-walk.ensures.of;
      walked = over_any shows shows piece (λ volumes. IsWalked volumes piece a hits) (λ volumes. walk_begins volumes piece a hits c.in_ok-walk.ensures.start c.new-hits.ensures.items);
      come = over_any shows shows piece (λ volumes. ComesTo volumes piece a) (λ volumes. comes_at_first volumes piece a c.in_ok-walk.ensures.start);
      grows = grows_itself shows;
      counted = omega arith;
    }

pub returns-in_err-batch-clause-hits : goal.returns-in_err-batch-clause-hits
returns-in_err-batch-clause-hits g c =
    let piece = c.args.piece.now in
    let l = c.loop-walk in
    let a = l.walk.addr in
    let next = c.next.new.self.addr in
    let e = c.in_err-batch.field-0.0 in
    let first = g.D.Drive.shows c.args.drive.now in
    let second = g.D.Drive.shows l.drive in
    let third = g.D.Drive.shows c.next.new.drive in
    let p = err_from_is_err_and c.from_residual-in_err-batch.result c.from_residual-in_err-batch.ensures.1 in
    let step = subst (λ (q : Piece). AfterWalk second third q a (BlockGiven q a next (Err e))) l.invariant.of c.in_err-batch.ensures.hits in
    rw (p.1, p.2)
    (found_over first third piece (Err e)
    (over_join first second third piece (λ volumes. IsWalked volumes piece a l.hits.items)
    (λ volumes. Follows volumes piece a → BlockGiven piece a next (Err e) volumes) (λ volumes. AnswersPiece volumes piece (Err e))
    l.invariant.grows c.next.ensures.grows l.invariant.walked step
    (λ volumes walked answer. walk_refused volumes piece a l.hits.items (cause e) walked (answer (walk_follows volumes piece a l.hits.items walked)))))

pub returns-in_err-batch-clause-named : goal.returns-in_err-batch-clause-named
returns-in_err-batch-clause-named g c =
    let piece = c.args.piece.now in
    let l = c.loop-walk in
    let a = l.walk.addr in
    let e = c.in_err-batch.field-0.0 in
    let first = g.D.Drive.shows c.args.drive.now in
    let second = g.D.Drive.shows l.drive in
    let third = g.D.Drive.shows c.next.new.drive in
    let p = err_from_is_err_and c.from_residual-in_err-batch.result c.from_residual-in_err-batch.ensures.1 in
    rw (p.1, p.2) (
      a,
      subst (λ (q : Piece). IsAt q.volume a e) l.invariant.of c.in_err-batch.ensures.named,
      over_join first second third piece (λ volumes. ComesTo volumes piece a) (λ volumes. ⊤) (λ volumes. ComesTo volumes piece a)
          l.invariant.grows c.next.ensures.grows l.invariant.come (over_any second third piece (λ volumes. ⊤) (λ volumes. tt)) (λ volumes come _. come),
    )

pub returns-in_err-batch-clause-grows : goal.returns-in_err-batch-clause-grows
returns-in_err-batch-clause-grows g c =
    grows_more (g.D.Drive.shows c.args.drive.now) (g.D.Drive.shows c.loop-walk.drive) (g.D.Drive.shows c.next.new.drive) c.loop-walk.invariant.grows c.next.ensures.grows

pub loop-walk-preserved : goal.loop-walk-preserved
loop-walk-preserved g c =
    let piece = c.args.piece.now in
    let l = c.loop-walk in
    let a = l.walk.addr in
    let next = c.next.new.self.addr in
    let batch = c.in-Some.batch in
    let after = c.append_light.new.hits.items in
    let first = g.D.Drive.shows c.args.drive.now in
    let second = g.D.Drive.shows l.drive in
    let third = g.D.Drive.shows c.next.new.drive in
    let answer : AfterWalk second third l.walk.piece.now a (BlockGiven l.walk.piece.now a next (Ok (Some batch))) = rw (c.in-Some.is) at c.in_ok-batch.ensures.hits in
    let step = subst (λ (q : Piece). AfterWalk second third q a (BlockGiven q a next (Ok (Some batch)))) l.invariant.of answer in
    record {
      of = c.next.ensures.of ∙ l.invariant.of;
      walked =
          over_join first second third piece (λ volumes. IsWalked volumes piece a l.hits.items)
          (λ volumes. Follows volumes piece a → BlockGiven piece a next (Ok (Some batch)) volumes) (λ volumes. IsWalked volumes piece next after)
          l.invariant.grows c.next.ensures.grows l.invariant.walked step
          (λ volumes walked answer.
          walk_goes_on volumes piece a next l.hits.items after walked
          (record { batch = batch.hits.items; step = answer (walk_follows volumes piece a l.hits.items walked); pushed = c.in_ok-append_light.ensures }));
      come =
          over_join first second third piece (λ volumes. IsWalked volumes piece a l.hits.items × ComesTo volumes piece a)
          (λ volumes. Follows volumes piece a → BlockGiven piece a next (Ok (Some batch)) volumes) (λ volumes. ComesTo volumes piece next)
          l.invariant.grows c.next.ensures.grows
          (over_both first second piece (λ volumes. IsWalked volumes piece a l.hits.items) (λ volumes. ComesTo volumes piece a) l.invariant.walked l.invariant.come) step
          (λ volumes both answer. comes_further volumes piece a next batch.hits.items both.1 (answer (walk_follows volumes piece a l.hits.items both.0)));
      grows = grows_more first second third l.invariant.grows c.next.ensures.grows;
      counted = omega (arith, l.invariant.counted, c.next.ensures.counted);
    }

pub returns-clause-hits : goal.returns-clause-hits
returns-clause-hits g c =
    let piece = c.args.piece.now in
    let l = c.loop-walk in
    let a = l.walk.addr in
    let next = c.next.new.self.addr in
    let first = g.D.Drive.shows c.args.drive.now in
    let second = g.D.Drive.shows l.drive in
    let third = g.D.Drive.shows c.next.new.drive in
    let answer : AfterWalk second third l.walk.piece.now a (BlockGiven l.walk.piece.now a next (Ok None)) = rw (c.in_default.is) at c.in_ok-batch.ensures.hits in
    let step = subst (λ (q : Piece). AfterWalk second third q a (BlockGiven q a next (Ok None))) l.invariant.of answer in
    found_over first third piece (Ok (record { piece = c.piece.inside.number; hits = l.hits }))
    (over_join first second third piece (λ volumes. IsWalked volumes piece a l.hits.items)
    (λ volumes. Follows volumes piece a → BlockGiven piece a next (Ok None) volumes)
    (λ volumes. AnswersPiece volumes piece (Ok (record { piece = c.piece.inside.number; hits = l.hits })))
    l.invariant.grows c.next.ensures.grows l.invariant.walked step
    (λ volumes walked answer. walk_ends volumes piece a l.hits.items l.hits.items walked (answer (walk_follows volumes piece a l.hits.items walked)) refl))

pub returns-clause-grows : goal.returns-clause-grows
returns-clause-grows g c =
    grows_more (g.D.Drive.shows c.args.drive.now) (g.D.Drive.shows c.loop-walk.drive) (g.D.Drive.shows c.next.new.drive) c.loop-walk.invariant.grows c.next.ensures.grows

pub returns-in_err-append_light-clause-grows : goal.returns-in_err-append_light-clause-grows
returns-in_err-append_light-clause-grows g c =
    grows_more (g.D.Drive.shows c.args.drive.now) (g.D.Drive.shows c.loop-walk.drive) (g.D.Drive.shows c.next.new.drive) c.loop-walk.invariant.grows c.next.ensures.grows

pub returns-in_err-append_light-clause-named : goal.returns-in_err-append_light-clause-named
returns-in_err-append_light-clause-named g c =
    let piece = c.args.piece.now in
    let p = err_from_is_err_and c.from_residual-in_err-append_light.result c.from_residual-in_err-append_light.ensures.1 in
    rw (p.1, p.2)
    (0, tt, over_any (g.D.Drive.shows c.args.drive.now) (g.D.Drive.shows c.next.new.drive) piece (λ volumes. ComesTo volumes piece 0) (λ volumes. comes_at_first volumes piece 0 refl))
