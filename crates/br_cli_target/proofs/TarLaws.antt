-- A stream that was flushed, or could not be.
use Rattle.std.proofs.Common.{◌≡◌, ◌∙◌, ℕ, List, Option, Some, None, ap, refl, inl, inr}
use Rattle.std.specs.Io.KnownBytes.{Keeps}
use Rattle.br_cli_target.specs.TarEnding.{EndsBy, IsFlushed, IsShown, not_flushed}
use Rattle.br_cli_target.specs.declared.target_tar.TarEnd.{TarEnd}
use Rattle.br_cli_target.specs.declared.target_tar.TarEnd.TheVariants.{Whole, Cut, Refused}

-- known bytes are the same after a flush
bytes_kept : (before after : Option (List ℕ)) (bytes : List ℕ) → Keeps before after → before ≡ Some bytes → after ≡ Some bytes
bytes_kept None after bytes keeps is = absurd cc
bytes_kept (Some xs) None bytes keeps is = absurd keeps
bytes_kept (Some xs) (Some ys) bytes keeps is = ap Some keeps ∙ is

-- a stream without an end has none after a flush
pub cut_after : (later : TarEnd) → IsFlushed Cut later → later ≡ Cut
cut_after later (inl is) = is
cut_after later (inr is) = is

-- a stream that could not be flushed has no end that was
pub shown_anyway : (shown : Type 0) (end : TarEnd) → IsShown shown (not_flushed end)
shown_anyway shown (Whole n) = tt
shown_anyway shown Cut = tt
shown_anyway shown (Refused fault) = tt
