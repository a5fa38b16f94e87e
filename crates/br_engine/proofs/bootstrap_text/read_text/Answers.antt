use Rattle.std.proofs.Common.{◌≡◌, ℕ, true, false, List, sym, subst, ◌∙◌}
use Rattle.std.specs.Io.KnownBytes.{Consumes}
use Rattle.std.proofs.KnownBytes.{Consumes-nil}
use Rattle.br_engine.specs.BootstrapText.{has_long_end}
use Rattle.br_engine.proofs.ReadLaws.{nothing_is_short, settled_reads}
use Rattle.br_engine.proofs.bootstrap_text.read_text.Goals as goal

pub loop-text-init : goal.loop-text-init
loop-text-init g c =
    let known = g.R.Read.remaining c.args.reader.now in
    subst (λ (t : List ℕ). Consumes known known t × (has_long_end t ≡ false)) (sym c.new-text.ensures.items) (Consumes-nil known, nothing_is_short)

pub returns-then-has_long_end-clause-alike : goal.returns-then-has_long_end-clause-alike
returns-then-has_long_end-clause-alike g c =
    let known = g.R.Read.remaining c.args.reader.now in
    let read = c.in_ok-read_part.ensures.read known c.loop-text.invariant.0 in
    let long = subst (λ (t : List ℕ). has_long_end t ≡ true) c.deref.ensures.value (sym c.has_long_end.ensures ∙ c.if-has_long_end.true) in
    settled_reads known (g.R.Read.remaining c.read_part.new.reader) c.read_part.new.text.items read long
