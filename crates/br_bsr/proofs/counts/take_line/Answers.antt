use Rattle.std.proofs.Common.{◌≡◌, List, ℕ, Option, ap, subst, ◌∙◌}
use Rattle.std.specs.Result.{OnOk}
use Rattle.br_model.specs.BootstrapText.{trimmed}
use Rattle.br_bsr.specs.Counts.{stated, with_stated}
use Rattle.br_bsr.proofs.CountLaws.{assigns, assigns_nothing}
use Rattle.br_bsr.proofs.counts.take_line.Goals as goal

pub returns-in-Some : goal.returns-in-Some
returns-in-Some c =
    let text = c.trimmed.result.now in
    let is : text ≡ stated c.args.line.now = c.trimmed.ensures ∙ ap trimmed c.without_comment.ensures in
    let word = c.trimmed-in-Some.ensures ∙ ap trimmed c.in-Some.ensures.1 in
    let value = c.trimmed-in-Some-2.ensures ∙ ap trimmed c.in-Some.ensures.2 in
    let same = assigns text c.trimmed-in-Some.result.now c.trimmed-in-Some-2.result.now c.args.counts.now.items c.in-Some.ensures.0 word value in
    subst (λ (cs : List (Option ℕ)). OnOk c.take_in.result (c.take_in.new.counts.items ≡ cs))
    (same ∙ ap (λ (t : List ℕ). with_stated t c.args.counts.now.items) is) c.take_in.ensures

pub returns-in-None : goal.returns-in-None
returns-in-None c =
    let is = c.trimmed.ensures ∙ ap trimmed c.without_comment.ensures in
    assigns_nothing c.trimmed.result.now c.args.counts.now.items c.in-None.ensures.0
    ∙ ap (λ (t : List ℕ). with_stated t c.args.counts.now.items) is
