use Rattle.std.proofs.Common.{◌+◌, take, length, ap, subst, arith, length-append}
use Rattle.std.specs.Io.KnownBytes.{Appends}
use Rattle.std.proofs.KnownBytes.{Appends-nil, Appends-trans}
use Rattle.std.proofs.lemmas.List.{take_all}
use Rattle.std.proofs.lemmas.Result.{err_from_is_err_and}
use Rattle.br_reread_parts.specs.Windows.{data_bytes}
use Rattle.br_reread_parts.proofs.PartLaws.{few_more, few_these}
use Rattle.br_reread_parts.proofs.PutLaws.{err_again}
use Rattle.br_reread_parts.proofs.WindowLaws.{first_fewer, one_more}
use Rattle.br_reread_parts.proofs.file_windows.write_window.Goals as goal

pub loop-found-init : goal.loop-found-init
loop-found-init g c = record { written = Appends-nil (g.W.Write.contents c.args.writer.now); left = omega arith }

pub returns-in_err-write_data-clause-front : goal.returns-in_err-write_data-clause-front
returns-in_err-write_data-clause-front g c =
    let l = c.loop-found.invariant in
    few_more _ _ _ _ _ c.loop-found.left l.left l.written c.in_err-write_data.ensures.front

pub returns-in_err-write_data-clause-changed : goal.returns-in_err-write_data-clause-changed
returns-in_err-write_data-clause-changed g c =
    let window = c.args.window.now in
    let i = c.loop-found.found-index in
    let x = c.found-item.result in
    let p = err_from_is_err_and c.from_residual.result c.from_residual.ensures.1 in
    rw (p.1, p.2)
    (λ is.
    let more = c.in_err-write_data.ensures.changed (err_again _ _ is) in
    let left = c.loop-found.invariant.left in
    let all = length-append (data_bytes (take i window)) x.bytes in
    let same = ap length (one_more window i x c.loop-found-test.true c.found-item.is) in
    let fewer = first_fewer (i + 1) window in
    omega (arith, more, left, all, same, fewer))

pub loop-found-preserved : goal.loop-found-preserved
loop-found-preserved g c =
    let window = c.args.window.now in
    let i = c.loop-found.found-index in
    let x = c.found-item.result in
    let before = c.loop-found.invariant in
    let done = c.in_ok-write_data.ensures in
    let more = one_more window i x c.loop-found-test.true c.found-item.is in
    record {
      written =
          subst (Appends (g.W.Write.contents c.args.writer.now) (g.W.Write.contents c.write_data.new.writer)) more
          (Appends-trans _ _ _ (data_bytes (take i window)) x.bytes before.written done.written);
      left =
          let all = length-append (data_bytes (take i window)) x.bytes in
          let same = ap length more in
          let few = done.left in
          let so_far = before.left in
          omega (arith, all, same, few, so_far);
    }

pub returns-clause-left : goal.returns-clause-left
returns-clause-left g c =
    let left = c.loop-found.invariant.left in
    let all = ap (λ ds. length (data_bytes ds)) (take_all c.loop-found.found-index c.args.window.now c.loop-found-test.false) in
    omega (arith, left, all)

pub returns-clause-written : goal.returns-clause-written
returns-clause-written g c =
    let at = c.loop-found in
    subst (λ ds. Appends (g.W.Write.contents c.args.writer.now) (g.W.Write.contents at.writer) (data_bytes ds))
    (take_all at.found-index c.args.window.now c.loop-found-test.false) at.invariant.written

pub returns-clause-front : goal.returns-clause-front
returns-clause-front g c = let l = c.loop-found.invariant in few_these _ _ _ c.args.left.now c.loop-found.left l.left l.written
