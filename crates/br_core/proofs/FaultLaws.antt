-- The refusals that the relation has.
use Rattle.std.proofs.Common.{◌≡◌, ◌==◌, ℕ, Bool, true, false, cond, None, Some, refl, sym, ap, ◌∙◌}
use Rattle.std.proofs.lemmas.Bool.{ne_eqb}
use Rattle.br_history.specs.declared.fault.HistoryFault.{HistoryFault}
use Rattle.br_history.specs.declared.fault.HistoryFault.TheVariants as history
use Rattle.br_plan.specs.declared.fault.PlanFault.{PlanFault}
use Rattle.br_plan.specs.declared.fault.PlanFault.TheVariants as planning
use Rattle.br_core.specs.Fault.{cause, fault_number}
use Rattle.br_core.specs.declared.fault.StepFault.{StepFault}
use Rattle.br_core.specs.declared.fault.StepFault.TheVariants.{Memory, NotEnabled, Commit, Plan}

-- the relation has all of them, except for memory that ran out, whose number is 1
cause_is : (f : StepFault) → cause f ≡ cond (fault_number f == 1) None (Some (fault_number f))
cause_is Memory = refl
cause_is NotEnabled = refl
cause_is (Commit history.Memory) = refl
cause_is (Commit history.DuplicateJob) = refl
cause_is (Commit history.DuplicateSession) = refl
cause_is (Commit history.BadRow) = refl
cause_is (Plan planning.Memory) = refl
cause_is (Plan planning.NoFull) = refl
cause_is (Plan planning.NothingMarked) = refl
cause_is (Plan planning.UnknownClient) = refl
cause_is (Plan planning.UnknownFileSet) = refl

pub cause_none : (f : StepFault) (n : ℕ) → n ≡ fault_number f → n ≡ 1 → None ≡ cause f
cause_none f n is one =
    let told : (fault_number f == 1) ≡ true = ap (λ (m : ℕ). m == 1) (sym is ∙ one) in
    sym (cause_is f ∙ ap (λ (b : Bool). cond b None (Some (fault_number f))) told)

pub cause_some : (f : StepFault) (n : ℕ) → n ≡ fault_number f → (n ≡ 1 → ⊥) → Some n ≡ cause f
cause_some f n is more =
    let told : (fault_number f == 1) ≡ false = ne_eqb (fault_number f) 1 (λ e. more (is ∙ e)) in
    sym (cause_is f ∙ ap (λ (b : Bool). cond b None (Some (fault_number f))) told ∙ ap Some (sym is))
