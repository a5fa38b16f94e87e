use Rattle.br_cli_target.proofs.OwnLaws.{own_are}
use Rattle.br_cli_target.proofs.own_hits.own_hits.Goals as goal

pub returns : goal.returns
returns c =
    own_are c.args.key c.args.hits.now c.around.result.0.now c.around.result.1.now c.around.result.2.now
    c.around.ensures.joined c.around.ensures.before c.around.ensures.of_key c.around.ensures.after
