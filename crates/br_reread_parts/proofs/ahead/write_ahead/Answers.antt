use Rattle.std.proofs.Common.{◌≡◌, ◌<◌, ◌+◌, List, [], length, refl, subst}
use Rattle.std.proofs.lemmas.Result.{err_from_is_err_and}
use Rattle.std.specs.Io.KnownBytes.{Appends}
use Rattle.br_data.specs.KeptData.{Kept}
use Rattle.br_reread_parts.specs.Steps.{step_of}
use Rattle.br_reread_parts.specs.Windows.{data_bytes}
use Rattle.br_reread_parts.proofs.PutLaws.{err_again}
use Rattle.br_reread_parts.proofs.StepLaws.{next_fits, one_put}
use Rattle.br_reread_parts.proofs.WindowLaws.{given_both}
use Rattle.br_reread_parts.proofs.ahead.write_ahead.Goals as goal

pub returns-in_err-write_window-clause-changed : goal.returns-in_err-write_window-clause-changed
returns-in_err-write_window-clause-changed g c =
    let ahead = c.args.ahead.now in
    let p = err_from_is_err_and c.from_residual.result c.from_residual.ensures.1 in
    rw (p.1, p.2)
    (λ is fits.
    next_fits c.args.many.now (step_of [] ahead) fits
    (subst (λ (found : List Kept). ahead.left < length (data_bytes found)) c.deref.ensures.value (c.in_err-write_window.ensures.changed (err_again _ _ is))))

pub returns-in_err-read-clause-changed : goal.returns-in_err-read-clause-changed
returns-in_err-read-clause-changed g c =
    let next = c.cut_window-next.result in
    let p = err_from_is_err_and c.from_residual-in_err-read.result c.from_residual-in_err-read.ensures.1 in
    rw (p.1, p.2)
    (λ is fits.
    c.in_err-read.ensures.changed (err_again _ _ is)
    (given_both c.args.many.now c.args.ahead.now.rest.now next.window.now next.rest.now c.cut_window-next.ensures.joined fits.0).0)

pub returns-clause-written : goal.returns-clause-written
returns-clause-written g c =
    let next = c.cut_window-next.result in
    let done = c.in_ok-write_window.ensures in
    let had = g.W.Write.contents c.args.writer.now in
    let has = g.W.Write.contents c.write_window.new.writer in
    record {
      puts = λ read.
          one_put c.args.many.now had has _ _ next.window.now c.cut_window-next.ensures.joined refl
          (subst (λ (found : List Kept). c.write_window.new.left + length (data_bytes found) ≡ c.args.ahead.now.left) c.deref.ensures.value done.left)
          (subst (λ (found : List Kept). Appends had has (data_bytes found)) c.deref.ensures.value done.written) c.in_ok-read.ensures.same;
      fewer = c.cut_window-next.ensures.fewer;
    }
