use Rattle.std.proofs.Common.{ℕ, Result, refl}
use Rattle.br_model.specs.Answer.{IsRefusal, refused_as}
use Rattle.br_model.specs.Attribute.{Attributes}
use Rattle.br_model.specs.File.{fault}
use Rattle.br_attr.specs.Fault as attr_fault
use Rattle.br_attr.specs.declared.fault.AttrFault.{AttrFault}
use Rattle.br_attr.specs.declared.fault.AttrFault.TheVariants as attr
use Rattle.br_records.specs.Making.{cause, making_fault}
use Rattle.br_records.proofs.attributes.attributes_in.Goals as goal

-- each refusal is 64
refused_64 : (e : AttrFault) (x : Result Attributes ℕ) → IsRefusal (attr_fault.cause e) x
    → IsRefusal (cause (making_fault e)) (refused_as (λ _. fault 64) x)
refused_64 attr.Memory x is = tt
refused_64 attr.BadNumber x is = rw is refl
refused_64 attr.MissingField x is = rw is refl
refused_64 attr.BadName x is = rw is refl
refused_64 attr.IndexDiffers x is = rw is refl

pub returns-in-Err : goal.returns-in-Err
returns-in-Err c = rw c.of_attr_fault.ensures (refused_64 c.in-Err.fault _ c.in-Err.ensures)
