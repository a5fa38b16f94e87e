use Rattle.br_history.proofs.HistoryLaws.{id_taken_away}
use Rattle.br_history.proofs.history.insert_both.Goals as goal

pub returns-in-Err-clause-same_ids : goal.returns-in-Err-clause-same_ids
returns-in-Err-clause-same_ids c =
    id_taken_away c.args.ids.now c.insert.new.self c.remove.new.self c.args.id c.requires c.in_ok-insert.ensures.updates c.remove.ensures.updates
