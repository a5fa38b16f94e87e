use Rattle.std.proofs.Common.{◌≡◌, ◌-◌, ℕ, List, length, take, drop, sym, ap, ◌∙◌}
use Rattle.br_model.specs.Answer.{refused_as}
use Rattle.br_model.specs.Name.{checked_volume_name}
use Rattle.br_model.specs.BootstrapText.{read_volume}
use Rattle.br_bsr.proofs.VolumeLaws.{inside_is, volume_quoted, volume_plain, volume_spaced}
use Rattle.br_bsr.proofs.statement.volume_of.Goals as goal

pub returns-then-is_quoted : goal.returns-then-is_quoted
returns-then-is_quoted c =
    let is : read_volume c.args.text.now ≡ refused_as (λ (n : ℕ). 33) (checked_volume_name (take (length c.args.text.now - 1 - 1) (drop 1 c.args.text.now))) =
    volume_quoted c.args.text.now (sym c.is_quoted.ensures ∙ c.if-is_quoted.true)
    ∙ ap (λ (name : List ℕ). refused_as (λ (n : ℕ). 33) (checked_volume_name name)) (sym (inside_is c.args.text.now)) in
    rw is c.named.ensures

pub returns-then-contains : goal.returns-then-contains
returns-then-contains c =
    volume_spaced c.args.text.now (sym c.is_quoted.ensures ∙ c.if-is_quoted.false) (sym c.contains.ensures.value ∙ c.if-contains.true)

pub returns : goal.returns
returns c =
    let is : read_volume c.args.text.now ≡ refused_as (λ (n : ℕ). 33) (checked_volume_name c.args.text.now) =
    volume_plain c.args.text.now (sym c.is_quoted.ensures ∙ c.if-is_quoted.false) (sym c.contains.ensures.value ∙ c.if-contains.false) in
    rw is c.named-2.ensures
