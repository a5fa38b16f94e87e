use Rattle.std.proofs.Common.{List, ℕ, sym, subst, arith}
use Rattle.std.proofs.KnownBytes.{Appends-nil}
use Rattle.std.specs.Io.KnownBytes.{Appends}
use Rattle.br_data.proofs.BodyPartLaws.{none_left, none_done}
use Rattle.br_data.proofs.WrittenLaws.{zeros_more, zeros_front, on_err}
use Rattle.br_data.proofs.body_part.write_zeros.Goals as goal

pub loop-left-init : goal.loop-left-init
loop-left-init g c =
    let held = g.W.Write.contents c.args.writer.now in
    (omega arith, subst (Appends held held) (sym (none_done c.args.count)) (Appends-nil held))

pub returns-in_err-left-clause-front : goal.returns-in_err-left-clause-front
returns-in_err-left-clause-front g c =
    on_err _ (zeros_front _ _ _ c.args.count c.loop-left.left c.loop-left.invariant.0 c.loop-left.invariant.1 c.in_err-left.ensures.refused)

pub loop-left-preserved : goal.loop-left-preserved
loop-left-preserved g c =
    let before = c.loop-left.invariant in
    let fits = c.in_ok-left.ensures.fits in (
      omega (arith, before.0),
      zeros_more _ _ _ c.split_at.result.0.now c.args.count c.loop-left.left c.min-next.result _ before.0 c.min-next.ensures c.split_at.ensures.front fits
          (omega (arith, fits)) before.1 c.in_ok-left.ensures.written,
    )

pub returns-clause-all : goal.returns-clause-all
returns-clause-all g c =
    subst (λ (bytes : List ℕ). Appends (g.W.Write.contents c.args.writer.now) (g.W.Write.contents c.loop-left.writer) bytes)
    (none_left c.args.count c.loop-left.left c.loop-left-test.false) c.loop-left.invariant.1
