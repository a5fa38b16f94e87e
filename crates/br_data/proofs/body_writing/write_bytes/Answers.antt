use Rattle.std.proofs.Common.{refl, arith}
use Rattle.std.proofs.KnownBytes.{Appends-nil}
use Rattle.std.proofs.lemmas.List.{take_rest}
use Rattle.br_data.proofs.WrittenLaws.{bytes_more, bytes_front, bytes_all, on_err}
use Rattle.br_data.proofs.body_writing.write_bytes.Goals as goal

pub loop-done-init : goal.loop-done-init
loop-done-init g c = record { below = omega arith; written = Appends-nil (g.W.Write.contents c.args.writer.now) }

pub returns-in_err-done-clause-front : goal.returns-in_err-done-clause-front
returns-in_err-done-clause-front g c =
    on_err _ (bytes_front _ _ _ c.args.bytes.now c.loop-done.done c.loop-done.invariant.written c.in_err-done.ensures.refused)

pub loop-done-preserved : goal.loop-done-preserved
loop-done-preserved g c = record {
  below = let fits = c.in_ok-done.ensures.fits in grind arith;
  written =
      bytes_more _ _ _ c.args.bytes.now _ c.loop-done.done _ refl c.loop-done.invariant.written
      (rw (take_rest c.args.bytes.now c.loop-done.done) at c.in_ok-done.ensures.written);
}

pub returns-clause-all : goal.returns-clause-all
returns-clause-all g c = bytes_all _ _ c.args.bytes.now c.loop-done.done (omega arith) c.loop-done.invariant.written
