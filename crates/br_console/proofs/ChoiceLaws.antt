-- The numbers of refused choices.
use Rattle.std.proofs.Common.{◌≡◌, refl, ◌⊎◌, inl, inr, Result, Err, ℕ}
use Rattle.br_model.specs.Answer.{IsRefusal}
use Rattle.br_choose.specs.Fault.{cause, fault_number}
use Rattle.br_choose.specs.declared.fault.ChooseFault.{ChooseFault}
use Rattle.br_choose.specs.declared.fault.ChooseFault.TheVariants.{Memory, NoFull, UnknownClient, UnknownFileSet}

-- the number is that of the model's refusal, or 1
pub refused_choice : {A : Type 0} (why : ChooseFault) (expected : Result A ℕ) → IsRefusal (cause why) expected
    → (fault_number why ≡ 1) ⊎ (expected ≡ Err (fault_number why))
refused_choice Memory expected is = inl refl
refused_choice NoFull expected is = inr is
refused_choice UnknownClient expected is = inr is
refused_choice UnknownFileSet expected is = inr is
