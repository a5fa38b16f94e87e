use Rattle.std.proofs.lemmas.Result.{IfOk-weaker}
use Rattle.clap.specs.Simple.{app_of}
use Rattle.br_cli_args.proofs.WordsLaws.{parsed_asks, parsed_fails, parsed_misses}
use Rattle.br_cli_args.proofs.words.parsed.Goals as goal

pub returns-clause-asks : goal.returns-clause-asks
returns-clause-asks c =
    IfOk-weaker c.try_get_matches_from_mut.result _ _ (λ found h. parsed_asks (app_of c.args.command.now) _ found c.requires h.2) c.try_get_matches_from_mut.ensures.ok

pub returns-clause-misses : goal.returns-clause-misses
returns-clause-misses c =
    IfOk-weaker c.try_get_matches_from_mut.result _ _ (λ found h. parsed_misses (app_of c.args.command.now) _ found c.requires h.2) c.try_get_matches_from_mut.ensures.ok

pub returns-clause-fails : goal.returns-clause-fails
returns-clause-fails c = parsed_fails (app_of c.args.command.now) _ c.try_get_matches_from_mut.result c.requires c.try_get_matches_from_mut.ensures.kinds
