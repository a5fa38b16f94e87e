-- A step of a walk, by what its parts say.
use Rattle.std.proofs.Common.{◌≡◌, ℕ, ◌+◌, ◌≤◌, List, [], length, Option, Err, true, false, refl, sym, subst, append-nil}
use Rattle.br_model.specs.Block.{read_header}
use Rattle.br_model.specs.Bootstrap.{Group}
use Rattle.br_model.specs.Meaning.{bound_of, is_covered, just_groups}
use Rattle.br_model.specs.Volume.{Volume, is_above}
use Rattle.br_check.specs.ChecksumBlocks.{differing_line, lines_from}
use Rattle.br_check.specs.ChecksumWalk.{AreAt, ArePassed, HasSize, InLater, InShown, IsCompared, IsStep}
use Rattle.br_check.specs.declared.checksum_walk.ChecksumStep.{ChecksumStep}
use Rattle.br_check.specs.declared.checksum_walk.ChecksumStep.TheVariants.{Ended, Failed, Passed}
use Rattle.br_check.proofs.BlockLaws.{lines_above, lines_bad, lines_past}
use Rattle.br_check.proofs.LaterLaws.{ended_cut, passed_asked, passed_unasked, shown_any, shown_so}

module _ (shown : Option (List Volume)) (failures failed : ℕ) (volume : List ℕ) (gs : List (ℕ × Group)) (a : ℕ) (text : List ℕ) where
  -- above the bound
  pub above_ends : is_above (bound_of (just_groups gs)) a ≡ true → IsStep shown failures failed volume gs a text text Ended
  above_ends above = (refl, shown_any shown volume (λ bytes. lines_from volume gs bytes a ≡ []) (λ bytes. lines_above volume gs bytes a above))

  -- at the end of the volume
  pub nothing_ends : InShown shown volume (λ bytes. length bytes ≤ a) → IsStep shown failures failed volume gs a text text Ended
  nothing_ends past = (refl, shown_so shown volume (λ bytes. length bytes ≤ a) (λ bytes. lines_from volume gs bytes a ≡ []) past (λ bytes l. lines_past volume gs bytes a l))

  -- at a bad header
  pub bad_ends : (got : List ℕ) (number : ℕ) → is_above (bound_of (just_groups gs)) a ≡ false → read_header got ≡ Err number → InShown shown volume (λ bytes. AreAt bytes a 24 got)
      → IsStep shown failures failed volume gs a text text Ended
  bad_ends got number near read at =
      (refl, shown_so shown volume (λ bytes. AreAt bytes a 24 got) (λ bytes. lines_from volume gs bytes a ≡ []) at (λ bytes t. lines_bad volume gs bytes a got number near t read))

  -- at a block that is not asked for
  pub unasked_passes : (size : ℕ) → is_above (bound_of (just_groups gs)) a ≡ false → is_covered (just_groups gs) a ≡ false → InLater shown volume (λ bytes. HasSize bytes a size)
      → IsStep shown failures failed volume gs a text text (Passed size)
  unasked_passes size near covered has = ([], sym (append-nil text), passed_unasked shown volume gs a size near covered has)

  -- at one that is asked for
  pub compared_step : (size : ℕ) (got after : List ℕ) (step : ChecksumStep) → is_above (bound_of (just_groups gs)) a ≡ false → is_covered (just_groups gs) a ≡ true
      → InLater shown volume (λ bytes. HasSize bytes a size) → InShown shown volume (λ bytes. AreAt bytes a size got) → IsCompared volume a size got text after step
      → IsStep shown failures failed volume gs a text after step
  compared_step size got after (Passed n) near covered has at is =
      let line = differing_line volume a got in
      (line, is.2, subst (λ (m : ℕ). ArePassed shown volume gs a (a + m) line) (sym is.0) (passed_asked shown volume gs a size got near covered has is.1 at))
  compared_step size got after Ended near covered has at is = (is.1, ended_cut shown volume gs a size got near covered has is.0 at)
  compared_step size got after Failed near covered has at is = absurd is
