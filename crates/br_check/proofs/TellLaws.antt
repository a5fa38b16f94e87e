-- Lines that are written as they are found.
use Rattle.std.proofs.Common.{◌≡◌, ◌∙◌, ℕ, ◌+◌, List, [], ◌∷◌, ◌++◌, length, Option, sym, ap, arith, append_assoc, append-nil, length-append}
use Rattle.std.proofs.KnownBytes.{Appends-nil, Appends-trans}
use Rattle.br_check.specs.Told.{TellsFrom, TellsMore}

-- a text without more has nothing to be written
pub tells_end : (held : Option (List ℕ)) (from : ℕ) (text : List ℕ) → from ≡ length text → TellsFrom from held held text
tells_end held from text is front [] parted so = Appends-nil held
tells_end held from text is front (x ∷ more) parted so =
    let whole : length text ≡ length front + length (x ∷ more) = ap length parted ∙ length-append front (x ∷ more) in
    absurd (omega (arith, whole, is, so))

-- nothing was appended
pub tells_none : (held : Option (List ℕ)) (text : List ℕ) → TellsMore held held text text
tells_none held text = ([], sym (append-nil text), Appends-nil held)

-- what was appended first, and then
pub tells_both : (held now holds : Option (List ℕ)) (before text after : List ℕ) → TellsMore held now before text → TellsMore now holds text after → TellsMore held holds before after
tells_both held now holds before text after first then = (
  first.0 ++ then.0,
  then.1 ∙ ap (λ (xs : List ℕ). xs ++ then.0) first.1 ∙ append_assoc before first.0 then.0,
  Appends-trans held now holds first.0 then.0 first.2 then.2,
)

-- what a step appends
pub tells_step : (held holds : Option (List ℕ)) (from : ℕ) (before after more : List ℕ) → after ≡ before ++ more → from ≡ length before → TellsFrom from held holds after → TellsMore held holds before after
tells_step held holds from before after more is so told = (more, is, told before more is so)
