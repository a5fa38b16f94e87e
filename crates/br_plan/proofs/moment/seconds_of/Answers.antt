use Rattle.std.proofs.Common.{◌≡◌, false, Some, None, cond, refl, sym, ap, ◌∙◌, subst, arith}
use Rattle.jiff_core.specs.DateTime.{civil_seconds}
use Rattle.br_model.specs.Moment.{Moment, is_moment, seconds_of}
use Rattle.br_plan.specs.Moment.{IsWritten}
use Rattle.br_plan.proofs.CalendarLaws.{handed, is_handed, seconds_given, lacks}
use Rattle.br_plan.proofs.moment.seconds_of.Goals as goal

pub overflow_cast-result : goal.overflow_cast-result
overflow_cast-result c =
    let v = c.moment.inside in
    let m : Moment = record { year = v.year; month = v.month; day = v.day; hour = v.hour; minute = v.minute; second = v.second } in
    let written : IsWritten m = subst IsWritten (sym c.moment.view_is) c.requires in
    let good = is_handed m written (omega arith) (c.in-Ok.ensures.succeeds.0 refl) in
    let is = seconds_given m c.in-Ok.civil c.to_second.result written good c.in-Ok.ensures.value (c.to_second.ensures.value ∙ ap civil_seconds c.to_plain.ensures) c.to_second.ensures.bound in
    rw is.0 (tt, omega (arith, is.1))

pub returns-in-Ok : goal.returns-in-Ok
returns-in-Ok c =
    let v = c.moment.inside in
    let m : Moment = record { year = v.year; month = v.month; day = v.day; hour = v.hour; minute = v.minute; second = v.second } in
    let written : IsWritten m = subst IsWritten (sym c.moment.view_is) c.requires in
    let good = is_handed m written (omega arith) (c.in-Ok.ensures.succeeds.0 refl) in
    let is = seconds_given m c.in-Ok.civil c.to_second.result written good c.in-Ok.ensures.value (c.to_second.ensures.value ∙ ap civil_seconds c.to_plain.ensures) c.to_second.ensures.bound in
    rw is.0 (sym (ap (λ b. cond b (Some (seconds_of m)) None) good) ∙ ap (λ (n : Moment). cond (is_moment n) (Some (seconds_of n)) None) c.moment.view_is)

pub returns-in-Err : goal.returns-in-Err
returns-in-Err c =
    let v = c.moment.inside in
    let m : Moment = record { year = v.year; month = v.month; day = v.day; hour = v.hour; minute = v.minute; second = v.second } in
    let written : IsWritten m = subst IsWritten (sym c.moment.view_is) c.requires in
    let none : is_moment m ≡ false = lacks (is_moment m) (λ e. c.in-Err.ensures.succeeds.1 (handed m written e)) in
    sym (ap (λ b. cond b (Some (seconds_of m)) None) none) ∙ ap (λ (n : Moment). cond (is_moment n) (Some (seconds_of n)) None) c.moment.view_is
