use Rattle.std.proofs.Common.{◌≡◌, Bool, true, false, Ok, refl, ap, sym}
use Rattle.std.specs.Str.{is_utf8}
use Rattle.std.proofs.lemmas.Str.{IsUtf8-from_is_utf8, is_utf8-from_IsUtf8}
use Rattle.br_catalog_rows.specs.Decode.{characters}
use Rattle.br_catalog_rows.proofs.decode.characters_of.Goals as goal

off : (b : Bool) → (b ≡ true → ⊥) → b ≡ false
off true never = absurd (never refl)
off false never = refl

pub returns-in-Ok : goal.returns-in-Ok
unfolding characters
returns-in-Ok c = rw (is_utf8-from_IsUtf8 c.args.bytes.now c.in-Ok.ensures.cases.1) (ap Ok (sym c.in-Ok.ensures.cases.0))

pub returns-in-Err : goal.returns-in-Err
unfolding characters
returns-in-Err c = rw (off (is_utf8 c.args.bytes.now) (λ e. c.in-Err.ensures.cases.0 (IsUtf8-from_is_utf8 c.args.bytes.now e))) refl
