-- Paths that are UTF-8, and those that are not.
use Rattle.std.proofs.Common.{◌≡◌, ℕ, List, true, false, refl, sym}
use Rattle.std.specs.Str.{IsUtf8, is_utf8}
use Rattle.std.proofs.lemmas.Str.{IsUtf8-from_is_utf8, is_utf8-from_IsUtf8}

pub is_text : (bytes : List ℕ) → IsUtf8 bytes → true ≡ is_utf8 bytes
is_text bytes is = sym (is_utf8-from_IsUtf8 bytes is)

pub is_no_text : (bytes : List ℕ) → ¬ (IsUtf8 bytes) → false ≡ is_utf8 bytes
is_no_text bytes broken =
    elim (is_utf8 bytes) as (λ b. is_utf8 bytes ≡ b → false ≡ b)
    [ true ↦ λ e. absurd (broken (IsUtf8-from_is_utf8 bytes e)) | false ↦ λ e. refl ] refl
