use Rattle.std.proofs.Common.{◌+◌, ◌∙◌, arith, refl, inl}
use Rattle.std.proofs.lemmas.List.{take_rest}
use Rattle.br_fs.proofs.AppendLaws.{written_more, part_of, all_of, on_err}
use Rattle.br_fs.proofs.DurableLaws.{lasts_itself, lasts_more}
use Rattle.br_fs.proofs.file_appending.append_some.Goals as goal

pub loop-done-init : goal.loop-done-init
loop-done-init g c = record { below = omega arith; file = refl; written = inl (refl, refl); lasts = lasts_itself _ }

pub returns-in_err-n-clause-part : goal.returns-in_err-n-clause-part
returns-in_err-n-clause-part g c =
    on_err _ (part_of _ _ _ _ _ c.loop-done.done c.in_err-n.ensures.refused c.loop-done.invariant.written)

pub returns-then-n-eq0-clause-part : goal.returns-then-n-eq0-clause-part
returns-then-n-eq0-clause-part g c =
    part_of _ _ _ _ _ (c.loop-done.done + c.in_ok-n.n) refl
    (written_more _ _ _ _ _ c.args.bytes.now _ c.loop-done.done c.in_ok-n.n c.loop-done.invariant.file refl c.loop-done.invariant.written
    (rw (take_rest c.args.bytes.now c.loop-done.done) at c.in_ok-n.ensures.written))

pub loop-done-preserved : goal.loop-done-preserved
loop-done-preserved g c = record {
  below = let fits = c.in_ok-n.ensures.fits in grind arith;
  file = c.in_ok-n.ensures.file ∙ c.loop-done.invariant.file;
  written = written_more _ _ _ _ _ c.args.bytes.now _ c.loop-done.done c.in_ok-n.n c.loop-done.invariant.file refl c.loop-done.invariant.written
      (rw (take_rest c.args.bytes.now c.loop-done.done) at c.in_ok-n.ensures.written);
  lasts = lasts_more _ _ _ c.loop-done.invariant.lasts c.in_ok-n.ensures.lasts;
}

pub returns-clause-all : goal.returns-clause-all
returns-clause-all g c = all_of _ _ _ _ c.loop-done.done c.requires.some (omega arith) c.loop-done.invariant.written

pub returns-in_err-n-clause-lasts : goal.returns-in_err-n-clause-lasts
returns-in_err-n-clause-lasts g c = lasts_more _ _ _ c.loop-done.invariant.lasts c.write_some.ensures.lasts

pub returns-then-n-eq0-clause-lasts : goal.returns-then-n-eq0-clause-lasts
returns-then-n-eq0-clause-lasts g c = lasts_more _ _ _ c.loop-done.invariant.lasts c.write_some.ensures.lasts
