use Rattle.std.proofs.Common.{◌∙◌, ◌+◌, ◌++◌, ℕ, List, ap, arith, subst, sym}
use Rattle.std.proofs.lemmas.Result.{on_ok_weaker}
use Rattle.br_model.specs.Meaning.{Piece}
use Rattle.br_volume.proofs.ExtendLaws.{grows_itself, grows_more}
use Rattle.br_check.specs.AskedBlocks.{groups_of, volume_of}
use Rattle.br_check.specs.ChecksumPieces.{failed_line}
use Rattle.br_check.specs.ChecksumWalk.{IsStep}
use Rattle.br_check.specs.declared.checksum_walk.ChecksumStep.TheVariants.{Ended, Failed, Passed}
use Rattle.br_check.proofs.PieceLaws.{Walked, walk_ends_of, walk_fails_of, walk_goes_on, walk_starts}
use Rattle.br_check.specs.Told.{TellsFrom}
use Rattle.br_check.proofs.TellLaws.{tells_both, tells_none, tells_step}
use Rattle.br_check.proofs.checksum_pieces.push_piece.Goals as goal

pub loop-size-init : goal.loop-size-init
loop-size-init g c =
    let asked = c.new-asked.result in
    record {
      walked = walk_starts (g.D.Drive.shows c.args.drive.now) (volume_of asked) (groups_of asked) c.args.text.now.items;
      volume = c.new-asked.ensures.volume ∙ ap (λ (p : Piece). p.volume) c.piece.view_is;
      groups = c.new-asked.ensures.groups ∙ c.deref.ensures.value ∙ ap (λ (p : Piece). p.groups) c.piece.view_is;
      grows = grows_itself (g.D.Drive.shows c.args.drive.now);
      told = tells_none (g.W.Write.contents c.args.writer.now) c.args.text.now.items;
      counted = omega arith;
    }

pub loop-size-preserved : goal.loop-size-preserved
loop-size-preserved g c =
    let l = c.loop-size in
    let asked = c.new-asked.result in
    let size = c.in-Passed.size in
    let first = g.D.Drive.shows c.args.drive.now in
    let second = g.D.Drive.shows l.drive in
    let third = g.D.Drive.shows c.step.new.drive in
    let after = c.step.new.text.items in
    let step : IsStep third (g.D.Drive.failures l.drive) (g.D.Drive.failures c.step.new.drive) (volume_of asked) (groups_of asked) l.addr l.text.items after (Passed size) =
    rw (c.in-Passed.is) at c.in_ok-size.ensures.step in
    record {
      walked =
          subst (λ (n : ℕ). Walked third (volume_of asked) (groups_of asked) (l.addr + n) c.args.text.now.items after) (sym c.from-addr.ensures)
          (walk_goes_on second third (volume_of asked) (groups_of asked) l.addr (l.addr + size) c.args.text.now.items l.text.items after step.0 c.step.ensures.grows
          l.invariant.walked step.1 step.2);
      volume = l.invariant.volume;
      groups = l.invariant.groups;
      grows = grows_more first second third l.invariant.grows c.step.ensures.grows;
      told =
          tells_both (g.W.Write.contents c.args.writer.now) (g.W.Write.contents l.writer) (g.W.Write.contents c.tell.new.writer) c.args.text.now.items l.text.items after
          l.invariant.told
          (tells_step (g.W.Write.contents l.writer) (g.W.Write.contents c.tell.new.writer) c.len-from.result l.text.items after step.0 step.1 (c.len-from.ensures ∙ l.text.ok.0)
          (subst (λ (xs : List ℕ). TellsFrom c.len-from.result (g.W.Write.contents l.writer) (g.W.Write.contents c.tell.new.writer) xs) c.deref-in-Passed.ensures.value
          c.in_ok-tell-in-Passed.ensures));
      counted = omega (arith, l.invariant.counted, c.step.ensures.counted);
    }

pub returns-in_err-size-clause-grows : goal.returns-in_err-size-clause-grows
returns-in_err-size-clause-grows g c =
    grows_more (g.D.Drive.shows c.args.drive.now) (g.D.Drive.shows c.loop-size.drive) (g.D.Drive.shows c.step.new.drive) c.loop-size.invariant.grows c.step.ensures.grows

pub returns-in-Ended-clause-tells : goal.returns-in-Ended-clause-tells
returns-in-Ended-clause-tells g c =
    let l = c.loop-size in
    let asked = c.new-asked.result in
    let third = g.D.Drive.shows c.step.new.drive in
    let failed = g.D.Drive.failures c.step.new.drive in
    let after = c.step.new.text.items in
    let step : IsStep third (g.D.Drive.failures l.drive) failed (volume_of asked) (groups_of asked) l.addr l.text.items after Ended = rw (c.in-Ended.is) at c.in_ok-size.ensures.step in
    walk_ends_of (g.D.Drive.shows l.drive) third (g.D.Drive.failures c.args.drive.now) failed c.args.piece.now (volume_of asked) (groups_of asked) l.addr
    c.args.text.now.items l.text.items after l.invariant.volume l.invariant.groups c.step.ensures.grows l.invariant.walked step.0 step.1

pub returns-in-Ended-clause-grows : goal.returns-in-Ended-clause-grows
returns-in-Ended-clause-grows g c =
    grows_more (g.D.Drive.shows c.args.drive.now) (g.D.Drive.shows c.loop-size.drive) (g.D.Drive.shows c.step.new.drive) c.loop-size.invariant.grows c.step.ensures.grows

pub returns-in-Failed-clause-tells : goal.returns-in-Failed-clause-tells
returns-in-Failed-clause-tells g c =
    let l = c.loop-size in
    let asked = c.new-asked.result in
    let piece = c.args.piece.now in
    let third = g.D.Drive.shows c.step.new.drive in
    let failed = g.D.Drive.failures c.step.new.drive in
    let after = c.step.new.text.items in
    let step : IsStep third (g.D.Drive.failures l.drive) failed (volume_of asked) (groups_of asked) l.addr l.text.items after Failed =
    rw (c.in-Failed.is) at c.in_ok-size.ensures.step in
    let pushed = c.in_ok-push_failed-in-Failed.ensures in
    on_ok_weaker c.tell-in-Failed.result
    (λ told.
    walk_fails_of (g.D.Drive.shows l.drive) third (g.D.Drive.failures c.args.drive.now) failed piece (volume_of asked) (groups_of asked) l.addr
    c.args.text.now.items l.text.items c.push_failed.new.text.items l.invariant.volume l.invariant.groups c.step.ensures.grows l.invariant.walked
    (omega (arith, l.invariant.counted, step.1))
    (pushed ∙ ap (λ (p : Piece). after ++ failed_line p.volume l.addr) c.piece.view_is ∙ ap (λ (xs : List ℕ). xs ++ failed_line piece.volume l.addr) step.0))
    c.tell-in-Failed.ensures

pub returns-in-Failed-clause-written : goal.returns-in-Failed-clause-written
returns-in-Failed-clause-written g c =
    let l = c.loop-size in
    let asked = c.new-asked.result in
    let piece = c.args.piece.now in
    let held = g.W.Write.contents l.writer in
    let holds = g.W.Write.contents c.tell-in-Failed.new.writer in
    let after = c.step.new.text.items in
    let last = c.push_failed.new.text.items in
    let step : IsStep (g.D.Drive.shows c.step.new.drive) (g.D.Drive.failures l.drive) (g.D.Drive.failures c.step.new.drive) (volume_of asked) (groups_of asked) l.addr l.text.items after Failed =
    rw (c.in-Failed.is) at c.in_ok-size.ensures.step in
    let pushed = c.in_ok-push_failed-in-Failed.ensures in
    on_ok_weaker c.tell-in-Failed.result
    (λ told.
    tells_both (g.W.Write.contents c.args.writer.now) held holds c.args.text.now.items l.text.items last l.invariant.told
    (tells_step held holds c.len-from.result l.text.items last (failed_line piece.volume l.addr)
    (pushed ∙ ap (λ (p : Piece). after ++ failed_line p.volume l.addr) c.piece.view_is ∙ ap (λ (xs : List ℕ). xs ++ failed_line piece.volume l.addr) step.0) (c.len-from.ensures ∙ l.text.ok.0)
    (subst (λ (xs : List ℕ). TellsFrom c.len-from.result held holds xs) c.deref-in-Failed.ensures.value told)))
    c.tell-in-Failed.ensures

pub returns-in-Failed-clause-grows : goal.returns-in-Failed-clause-grows
returns-in-Failed-clause-grows g c =
    grows_more (g.D.Drive.shows c.args.drive.now) (g.D.Drive.shows c.loop-size.drive) (g.D.Drive.shows c.step.new.drive) c.loop-size.invariant.grows c.step.ensures.grows

pub returns-in_err-tell-in-Passed-clause-grows : goal.returns-in_err-tell-in-Passed-clause-grows
returns-in_err-tell-in-Passed-clause-grows g c =
    grows_more (g.D.Drive.shows c.args.drive.now) (g.D.Drive.shows c.loop-size.drive) (g.D.Drive.shows c.step.new.drive) c.loop-size.invariant.grows c.step.ensures.grows

pub returns-in_err-push_failed-in-Failed-clause-grows : goal.returns-in_err-push_failed-in-Failed-clause-grows
returns-in_err-push_failed-in-Failed-clause-grows g c =
    grows_more (g.D.Drive.shows c.args.drive.now) (g.D.Drive.shows c.loop-size.drive) (g.D.Drive.shows c.step.new.drive) c.loop-size.invariant.grows c.step.ensures.grows
