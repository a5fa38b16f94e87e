use Rattle.br_piece.proofs.NearLaws.{sorted_are}
use Rattle.br_cli_target.proofs.narrowed_groups.asks_for_any.Goals as goal

pub got_of-requires : goal.got_of-requires
got_of-requires c = sorted_are c.args.keys.now c.requires
