-- The slots, as the result of the call.
use Rattle.std.proofs.Common.{◌≡◌, true, false, List, map, Vec, Option, None, Some, Result, Ok, Err, subst, arith}
use Rattle.std.specs.Prelude.{IfOk, IfErr}
use Rattle.std.specs.Global.{Global}
use Rattle.std.specs.List.{AllZip, list_any}
use Rattle.br_model.specs.Answer.{Answers}
use Rattle.br_model.specs.Volume.{Volume}
use Rattle.br_model.specs.Meaning.{Piece}
use Rattle.br_match.specs.Fault as piece
use Rattle.br_match.specs.declared.hit.Found.{Found}
use Rattle.br_match.specs.declared.fault.PieceFault.{PieceFault}
use Rattle.br_match.specs.declared.fault.PieceFault.TheVariants as why
use Rattle.br_match.specs.declared.fault.PieceCause.TheVariants.{BadId, BadBlockSize, Truncated, DriveFault, UnknownVolume}
use Rattle.br_pool.specs.Fault.{IsDecided, IsNoDriveLeft, cause}
use Rattle.br_pool.specs.Pool.{hits_lists, found_hits}
use Rattle.br_pool.specs.Workers.{Answer, is_failure}
use Rattle.br_pool.specs.Slots.{Fills, FillsBy, IsListed, is_empty, is_memory}
use Rattle.br_pool.specs.declared.fault.PoolFault.{PoolFault}
use Rattle.br_pool.specs.declared.fault.PoolFault.TheVariants as fault
use Rattle.br_pool.proofs.FilledLaws.{hits_are, numbers_are, fault_is, fault_sound, fault_no_memory}

module _ (over : List Volume → Type 0) (pieces : List Piece) (slots : List (Option Answer)) (fills : AllZip (Fills over) pieces slots) where
  pub listed_hits : (result : Result (Vec Found Global) PoolFault) → IsListed slots result → (volumes : List Volume) → over volumes → Answers found_hits cause result (hits_lists volumes pieces)
  listed_hits (Ok founds) listed volumes stands = hits_are over pieces founds.items volumes stands (subst (AllZip (Fills over) pieces) listed fills)
  listed_hits (Err fault.Memory) listed volumes stands = tt
  listed_hits (Err fault.NoDriveLeft) listed volumes stands = tt
  listed_hits (Err (fault.Piece w)) listed volumes stands =
      fault_is over pieces listed.1.front w listed.1.rest volumes stands (subst (AllZip (Fills over) pieces) listed.1.parted fills)

  pub listed_numbers : (result : Result (Vec Found Global) PoolFault) → IsListed slots result
      → IfOk result (λ founds. map (λ (f : Found). f.piece) founds.items ≡ map (λ (p : Piece). p.number) pieces)
  listed_numbers (Ok founds) listed = numbers_are over pieces founds.items (subst (AllZip (Fills over) pieces) listed fills)
  listed_numbers (Err w) listed = tt

-- the volumes decide a refusal that is neither of memory nor of a drive
decided : (w : PieceFault) → is_failure (Err w) ≡ false → is_memory (Some (Err w)) ≡ false → piece.cause w ≡ None → ⊥
decided why.Memory sound given e = absurd cc
decided (why.Block BadId vol addr) sound given e = absurd cc
decided (why.Block BadBlockSize vol addr) sound given e = absurd cc
decided (why.Block Truncated vol addr) sound given e = absurd cc
decided (why.Block DriveFault vol addr) sound given e = absurd cc
decided (why.Block UnknownVolume vol addr) sound given e = absurd cc

module _ (is : Piece → Answer → Type 0) (sound : (p : Piece) (a : Answer) → is p a → is_failure a ≡ false) (pieces : List Piece) (slots : List (Option Answer)) (fills : AllZip (FillsBy is) pieces slots) where
  pub listed_decided : (result : Result (Vec Found Global) PoolFault) → IsListed slots result → IfErr result IsDecided
  listed_decided (Ok founds) listed = tt
  listed_decided (Err fault.Memory) listed = tt
  listed_decided (Err fault.NoDriveLeft) listed = tt
  listed_decided (Err (fault.Piece w)) listed =
      decided w (fault_sound is sound pieces listed.1.front w listed.1.rest (subst (AllZip (FillsBy is) pieces) listed.1.parted fills))
      (fault_no_memory listed.1.front w listed.1.rest (subst (λ l. list_any is_memory l ≡ false) listed.1.parted listed.0))

module _ (slots : List (Option Answer)) where
  -- if no drive is left, a slot is empty
  pub listed_left : (result : Result (Vec Found Global) PoolFault) → IsListed slots result → (gone : Type 0) → (list_any is_empty slots ≡ true → gone) → IfErr result (λ f. IsNoDriveLeft f → gone)
  listed_left (Ok founds) listed gone so = tt
  listed_left (Err fault.Memory) listed gone so = λ e. absurd (omega (arith, e))
  listed_left (Err fault.NoDriveLeft) listed gone so = λ e. so listed.1
  listed_left (Err (fault.Piece w)) listed gone so = λ e. absurd (no_piece w e)
    where
      no_piece : (w : PieceFault) → piece.fault_number w ≡ 70 → ⊥
      no_piece why.Memory e = omega (arith, e)
      no_piece (why.Block BadId vol addr) e = omega (arith, e)
      no_piece (why.Block BadBlockSize vol addr) e = omega (arith, e)
      no_piece (why.Block Truncated vol addr) e = omega (arith, e)
      no_piece (why.Block DriveFault vol addr) e = omega (arith, e)
      no_piece (why.Block UnknownVolume vol addr) e = omega (arith, e)
