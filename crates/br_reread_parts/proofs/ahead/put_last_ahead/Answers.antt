use Rattle.std.proofs.Common.{◌≡◌, ◌<◌, ◌+◌, ◌++◌, List, length, ap, subst, ◌∙◌}
use Rattle.std.proofs.lemmas.Result.{err_from_is_err_and}
use Rattle.std.specs.Io.KnownBytes.{Appends}
use Rattle.br_data.specs.KeptData.{Kept}
use Rattle.br_reread_parts.specs.Windows.{data_bytes}
use Rattle.br_reread_parts.proofs.PutLaws.{err_again}
use Rattle.br_reread_parts.proofs.StepLaws.{last_put}
use Rattle.br_reread_parts.proofs.ahead.put_last_ahead.Goals as goal

pub returns-in_err-write_window-clause-changed : goal.returns-in_err-write_window-clause-changed
returns-in_err-write_window-clause-changed g c =
    let p = err_from_is_err_and c.from_residual-in_err-write_window.result c.from_residual-in_err-write_window.ensures.1 in
    rw (p.1, p.2)
    (λ is.
    subst (λ (found : List Kept). c.args.ahead.now.left < length (data_bytes found)) c.deref-2.ensures.value
    (c.in_err-write_window.ensures.changed (err_again _ _ is)))

pub returns-clause-put : goal.returns-clause-put
returns-clause-put g c =
    let had = g.W.Write.contents c.args.writer.now in
    let has = g.W.Write.contents c.write_window.new.writer in
    let done = c.in_ok-write_window.ensures in
    λ many none.
    last_put many had has _ _ _ none
    (c.in_ok-digest_window.ensures ∙ ap (λ (found : List Kept). c.args.reading.now ++ data_bytes found) c.deref.ensures.value)
    (subst (λ (found : List Kept). c.write_window.new.left + length (data_bytes found) ≡ c.args.ahead.now.left) c.deref-2.ensures.value done.left)
    (subst (λ (found : List Kept). Appends had has (data_bytes found)) c.deref-2.ensures.value done.written)
