use Rattle.std.proofs.Common.{rules}
use Rattle.std.proofs.lemmas.Result.{err_from_is_err_and}
use Rattle.br_cli_args.specs.Words.{asked}
use Rattle.br_cli_args.proofs.WordsLaws.{no_fault, nothing_asked, of_parse}
use Rattle.br_cli_args.proofs.words.read_by.Goals as goal

pub returns-in_err-parsed-clause-fails : goal.returns-in_err-parsed-clause-fails
returns-in_err-parsed-clause-fails c =
    let p = err_from_is_err_and c.from_residual.result c.from_residual.ensures.1 in
    rw (p.1, p.2) (of_parse _ c.in_err-parsed.field-0.0 c.in_err-parsed.ensures.fails)

pub returns-in-Some-clause-fails : goal.returns-in-Some-clause-fails
returns-in-Some-clause-fails c = no_fault _ (asked c.in-Some.invocation) c.in_ok-parsed.ensures.fails (search rules)

pub returns-in_ok-error_of-in-None-clause-fails : goal.returns-in_ok-error_of-in-None-clause-fails
returns-in_ok-error_of-in-None-clause-fails c = nothing_asked _ c.in_ok-error_of-in-None.field-0 c.in_ok-parsed.ensures.fails (search rules) (search rules)
