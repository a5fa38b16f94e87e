use Rattle.std.proofs.Common.{inr, arith, sym, ap, ◌∙◌}
use Rattle.br_store.specs.Made.{version_refusal}
use Rattle.br_store.proofs.opening.check_version.Goals as goal

pub returns-clause-current : goal.returns-clause-current
returns-clause-current g c clean =
    sym (ap version_refusal (c.deref.ensures.value ∙ c.in_ok-versions.ensures.rows clean)) ∙ sym c.refusal_of.ensures ∙ c.in-None.is

pub returns-in-Some-clause-why : goal.returns-in-Some-clause-why
returns-in-Some-clause-why g c clean =
    inr (
      c.requires (omega (arith, clean, c.versions.ensures.survives.clean)),
      sym (ap version_refusal (c.deref.ensures.value ∙ c.in_ok-versions.ensures.rows clean)) ∙ sym c.refusal_of.ensures ∙ c.in-Some.is,
      c.in_ok-versions.ensures.same clean,
    )
