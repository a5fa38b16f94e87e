use Rattle.std.proofs.Common.{List, [], arith, refl, subst, sym}
use Rattle.br_volume.proofs.ExtendLaws.{grows_itself, grows_more}
use Rattle.br_check.specs.Calls.{InTurn}
use Rattle.br_check.specs.Search.{IsSearched, Searched}
use Rattle.br_check.specs.Shown.{moment}
use Rattle.br_check.proofs.CallLaws.{piece_more}
use Rattle.br_check.proofs.search.search.Goals as goal

pub loop-piece-init : goal.loop-piece-init
loop-piece-init g c =
    let m = moment g.D.Drive c.args.drive.now in
    record {
      searched = subst (λ (rs : List Searched). InTurn IsSearched m m [] rs) (sym c.new-results.ensures.items) refl;
      grows = grows_itself (g.D.Drive.shows c.args.drive.now);
      counted = omega arith;
    }

pub loop-piece-preserved : goal.loop-piece-preserved
loop-piece-preserved g c =
    let first = g.D.Drive.shows c.args.drive.now in
    let second = g.D.Drive.shows c.loop-piece.drive in
    let third = g.D.Drive.shows c.search_piece-found.new.drive in
    let before = c.loop-piece.invariant in
    let said = c.search_piece-found.ensures in
    record {
      searched =
          piece_more IsSearched (moment g.D.Drive c.args.drive.now) (moment g.D.Drive c.loop-piece.drive) (moment g.D.Drive c.search_piece-found.new.drive)
          c.args.pieces.now c.loop-piece.piece-index c.piece-item.result c.loop-piece.results.items c.push_result.new.results.items c.search_piece-found.result
          c.loop-piece-test.true c.piece-item.is c.in_ok-push_result.ensures before.searched
          (record {
            later = record { grows = said.grows; counted = said.counted };
            number = said.number;
            found = said.hits;
            failed = said.failed;
            named = said.named;
          });
      grows = grows_more first second third before.grows said.grows;
      counted = omega (arith, before.counted, said.counted);
    }

pub returns-in_err-push_result-clause-grows : goal.returns-in_err-push_result-clause-grows
returns-in_err-push_result-clause-grows g c =
    grows_more (g.D.Drive.shows c.args.drive.now) (g.D.Drive.shows c.loop-piece.drive) (g.D.Drive.shows c.search_piece-found.new.drive)
    c.loop-piece.invariant.grows c.search_piece-found.ensures.grows
