use Rattle.std.proofs.Common.{ℕ, Result, Ok, Err, sym, ◌∙◌, refl}
use Rattle.br_model.specs.Answer.{Answers, refused_as}
use Rattle.br_model.specs.File.{fault, attributes_of, is_stream}
use Rattle.br_model.specs.Attribute.{Attributes, read_attributes}
use Rattle.br_records.specs.Making.{cause}
use Rattle.br_records.specs.declared.making_fault.MakingFault.{MakingFault}
use Rattle.br_records.proofs.ChoiceLaws.{none_in, one_in, more_in}
use Rattle.br_records.proofs.attributes.attributes_of.Goals as goal

-- each refusal is 64, whether it becomes a fault at once or later
as_64 : (result : Result Attributes MakingFault) (expected : Result Attributes ℕ) → Answers (λ attr. attr) cause result (refused_as (λ _. fault 64) expected)
    → Answers (λ attr. attr) cause result (refused_as fault (refused_as (λ _. 64) expected))
as_64 result (Ok a) is = is
as_64 result (Err n) is = is

pub returns-in-None : goal.returns-in-None
unfolding attributes_of
returns-in-None c = rw (none_in (is_stream 1) c.args.records.now (sym c.in-None.ensures)) refl

pub returns-in-Some : goal.returns-in-Some
unfolding attributes_of
returns-in-Some c =
    let one = one_in (is_stream 1) c.args.records.now c.in-Some.found.now (sym c.in-Some.ensures) (sym c.count_in.ensures ∙ c.if-count_in-eq1.true) in
    rw one (as_64 c.attributes_of_record.result (read_attributes c.in-Some.found.now.bytes c.args.index) c.attributes_of_record.ensures)

pub returns-in-Some-2 : goal.returns-in-Some-2
unfolding attributes_of
returns-in-Some-2 c =
    let more = more_in (is_stream 1) c.args.records.now c.in-Some.found.now (sym c.in-Some.ensures) (λ e. c.if-count_in-eq1.false (c.count_in.ensures ∙ e)) in
    rw more.2 refl
