use Rattle.std.proofs.Common.{sym, ◌∙◌, refl}
use Rattle.br_model.specs.File.{digest_fits, is_stream}
use Rattle.br_records.proofs.ChoiceLaws.{none_in, one_in, more_in}
use Rattle.br_join.proofs.making.digest_fits.Goals as goal

pub returns-in-None : goal.returns-in-None
unfolding digest_fits
returns-in-None c =
    let none = none_in (is_stream 3) c.args.records.now (sym c.in-None.ensures) in
    rw none refl

pub returns-in-Some : goal.returns-in-Some
unfolding digest_fits
returns-in-Some c =
    let one = one_in (is_stream 3) c.args.records.now c.in-Some.found.now (sym c.in-Some.ensures) (sym c.count_in.ensures ∙ c.if-count_in-eq1.true) in
    rw (one, ← c.digest.ensures) c.has_bytes.ensures

pub returns-in-Some-2 : goal.returns-in-Some-2
unfolding digest_fits
returns-in-Some-2 c =
    let more = more_in (is_stream 3) c.args.records.now c.in-Some.found.now (sym c.in-Some.ensures) (λ e. c.if-count_in-eq1.false (c.count_in.ensures ∙ e)) in
    rw more.2 refl
