use Rattle.std.proofs.Common.{◌≡◌, Bool, true, false, refl, sym}
use Rattle.std.specs.Str.{is_utf8}
use Rattle.std.proofs.lemmas.Str.{is_utf8-from_IsUtf8, IsUtf8-from_is_utf8}
use Rattle.br_catalog_files.proofs.old_files.is_text.Goals as goal

off : (b : Bool) → (b ≡ true → ⊥) → b ≡ false
off true never = absurd (never refl)
off false never = refl

pub returns-in-Ok : goal.returns-in-Ok
returns-in-Ok c = sym (is_utf8-from_IsUtf8 c.args.bytes.now c.in-Ok.ensures.cases.1)

pub returns-in-Err : goal.returns-in-Err
returns-in-Err c = sym (off (is_utf8 c.args.bytes.now) (λ e. c.in-Err.ensures.cases.0 (IsUtf8-from_is_utf8 c.args.bytes.now e)))
