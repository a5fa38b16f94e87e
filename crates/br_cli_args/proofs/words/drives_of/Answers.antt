use Rattle.std.proofs.Common.{◌≡◌, ◌≤◌, ◌∙◌, None, Some, ap, arith, codes, option_and_then, rules, sym}
use Rattle.clap.specs.Matches.{found_of}
use Rattle.br_cli_args.proofs.WordsLaws.{bounds_kept, bounds_missed, in_bounds, number_read}
use Rattle.br_cli_args.specs.Words.{drives_asked}
use Rattle.br_cli_args.proofs.words.drives_of.Goals.{else-drives-ge1-via-then-drives-ge1+else-drives-le16, else-drives-ge1-via-else-drives-ge1}
use Rattle.br_cli_args.proofs.words.drives_of.Goals as goal

pub returns-in_err-drives-clause-asked : goal.returns-in_err-drives-clause-asked
unfolding drives_asked
returns-in_err-drives-clause-asked c =
    let none : c.get_one.result ≡ None = search rules in
    let out : c.from_residual.result ≡ None = search rules in
    rw out
    (sym (number_read 1 16 (codes "drives") (found_of c.args.found.now) c.get_one.result c.get_one.ensures.none c.get_one.ensures.value ∙ ap (option_and_then (in_bounds 1 16)) none))

pub returns-then-drives-le16-clause-asked : goal.returns-then-drives-le16-clause-asked
unfolding drives_asked
returns-then-drives-le16-clause-asked c =
    let some : c.get_one.result ≡ Some c.in_ok-drives.drives = search rules in
    sym
    (number_read 1 16 (codes "drives") (found_of c.args.found.now) c.get_one.result c.get_one.ensures.none c.get_one.ensures.value ∙ ap (option_and_then (in_bounds 1 16)) some
    ∙ bounds_kept 1 16 c.in_ok-drives.drives c.if-drives-ge1.true c.if-drives-le16.true)

pub returns-else-drives-ge1-clause-asked : goal.returns-else-drives-ge1-clause-asked
unfolding drives_asked
returns-else-drives-ge1-clause-asked c =
    let some : c.get_one.result ≡ Some c.in_ok-drives.drives = search rules in
    let out : 1 ≤ c.in_ok-drives.drives → c.in_ok-drives.drives ≤ 16 → ⊥ = λ least most. elim c.else-drives-ge1.branch [
      | else-drives-ge1-via-then-drives-ge1+else-drives-le16 w ↦ omega (arith, w.if-drives-le16.false, most)
      | else-drives-ge1-via-else-drives-ge1 w ↦ omega (arith, w.if-drives-ge1.false, least)
    ] in
    sym
    (number_read 1 16 (codes "drives") (found_of c.args.found.now) c.get_one.result c.get_one.ensures.none c.get_one.ensures.value ∙ ap (option_and_then (in_bounds 1 16)) some
    ∙ bounds_missed 1 16 c.in_ok-drives.drives out)
