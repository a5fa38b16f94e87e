use Rattle.std.proofs.Common.{◌∙◌, sym, subst}
use Rattle.br_plan.specs.Moment.{IsWritten}
use Rattle.br_plan.proofs.MomentLaws.{text_written}
use Rattle.br_plan.proofs.moment.read_moment.Goals as goal

pub seconds_of-requires : goal.seconds_of-requires
seconds_of-requires c = subst IsWritten (sym c.numbers_in.ensures) (text_written c.args.text.now (sym c.has_form.ensures.form ∙ c.if-not-has_form.false))
