use Rattle.std.proofs.Common.{◌≡◌, ◌∙◌, None, Some, ap, arith, codes, option_and_then, rules, sym}
use Rattle.clap.specs.Matches.{found_of}
use Rattle.br_cli_args.specs.Words.{number_asked}
use Rattle.br_cli_args.proofs.WordsLaws.{bounds_kept, bounds_missed, in_bounds, number_read}
use Rattle.br_cli_args.proofs.words.number_of.Goals as goal

pub returns-in_err-number : goal.returns-in_err-number
unfolding number_asked
returns-in_err-number c =
    let none : c.get_one.result ≡ None = search rules in
    let out : c.from_residual.result ≡ None = search rules in
    rw out
    (sym (number_read 0 4294967295 (codes "number") (found_of c.args.found.now) c.get_one.result c.get_one.ensures.none c.get_one.ensures.value
    ∙ ap (option_and_then (in_bounds 0 4294967295)) none))

pub returns-in-Ok : goal.returns-in-Ok
unfolding number_asked
returns-in-Ok c =
    let some : c.get_one.result ≡ Some c.in_ok-number.number = search rules in
    sym
    (number_read 0 4294967295 (codes "number") (found_of c.args.found.now) c.get_one.result c.get_one.ensures.none c.get_one.ensures.value
    ∙ ap (option_and_then (in_bounds 0 4294967295)) some
    ∙ bounds_kept 0 4294967295 c.in_ok-number.number (omega arith) (omega (arith, c.in-Ok.ensures.0)) ∙ ap Some (sym c.in-Ok.ensures.1))

pub returns-in-Err : goal.returns-in-Err
unfolding number_asked
returns-in-Err c =
    let some : c.get_one.result ≡ Some c.in_ok-number.number = search rules in
    sym
    (number_read 0 4294967295 (codes "number") (found_of c.args.found.now) c.get_one.result c.get_one.ensures.none c.get_one.ensures.value
    ∙ ap (option_and_then (in_bounds 0 4294967295)) some
    ∙ bounds_missed 0 4294967295 c.in_ok-number.number (λ least most. c.in-Err.ensures (omega (arith, most))))
