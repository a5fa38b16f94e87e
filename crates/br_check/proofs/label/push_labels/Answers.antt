use Rattle.std.proofs.Common.{ℕ, List, ap, arith, subst}
use Rattle.br_model.specs.Meaning.{Piece}
use Rattle.br_volume.proofs.ExtendLaws.{grows_itself, grows_more}
use Rattle.br_check.specs.Label.{AppendsLabel, TellsVolume}
use Rattle.br_check.specs.Shown.{moment}
use Rattle.br_check.proofs.CallLaws.{lines_more, none_told}
use Rattle.br_check.proofs.label.push_labels.Goals as goal

pub loop-piece-init : goal.loop-piece-init
loop-piece-init g c = record {
  tells = none_told TellsVolume (moment g.D.Drive c.args.drive.now) c.args.text.now.items;
  grows = grows_itself (g.D.Drive.shows c.args.drive.now);
  counted = omega arith;
}

pub loop-piece-preserved : goal.loop-piece-preserved
loop-piece-preserved g c =
    let first = g.D.Drive.shows c.args.drive.now in
    let second = g.D.Drive.shows c.loop-piece.drive in
    let third = g.D.Drive.shows c.push_label.new.drive in
    let before = c.loop-piece.invariant in
    let failures = g.D.Drive.failures c.loop-piece.drive in
    let failed = g.D.Drive.failures c.push_label.new.drive in
    let one : AppendsLabel third failures failed c.piece-item.result.volume c.loop-piece.text.items c.push_label.new.text.items =
    subst (λ (v : List ℕ). AppendsLabel third failures failed v c.loop-piece.text.items c.push_label.new.text.items)
    (ap (λ (p : Piece). p.volume) c.piece.view_is) c.in_ok-push_label.ensures.tells in
    record {
      tells =
          lines_more TellsVolume (moment g.D.Drive c.args.drive.now) (moment g.D.Drive c.loop-piece.drive) (moment g.D.Drive c.push_label.new.drive)
          c.args.pieces.now c.loop-piece.piece-index c.piece-item.result c.args.text.now.items c.loop-piece.text.items c.push_label.new.text.items one.0
          c.loop-piece-test.true c.piece-item.is before.tells
          (record { later = record { grows = c.push_label.ensures.grows; counted = c.push_label.ensures.counted }; tells = one.1 }) one.2;
      grows = grows_more first second third before.grows c.push_label.ensures.grows;
      counted = omega (arith, before.counted, c.push_label.ensures.counted);
    }

pub returns-in_err-push_label-clause-grows : goal.returns-in_err-push_label-clause-grows
returns-in_err-push_label-clause-grows g c =
    grows_more (g.D.Drive.shows c.args.drive.now) (g.D.Drive.shows c.loop-piece.drive) (g.D.Drive.shows c.push_label.new.drive) c.loop-piece.invariant.grows
    c.push_label.ensures.grows
