use Rattle.std.proofs.Common.{Err, ap}
use Rattle.br_sink.specs.declared.file_parts.PartsFault.{PartsFault}
use Rattle.br_reread_files.proofs.TwoLaws.{both_put, item_later, one_put}
use Rattle.br_reread_files.proofs.gathered.Gathered.put_one_by_one.Goals as goal

pub returns-in-Ok-clause-put : goal.returns-in-Ok-clause-put
returns-in-Ok-clause-put g c =
    both_put _ _ _ _ _ _ _ _ (λ given. (given.0, item_later c.standing_stays.ensures _ _ _ _ _ c.put_by_parts.ensures.on given.1)) c.in_default.ensures.put
    c.in-Ok.ensures.put

pub returns-in-Err-put_by_parts-clause-put : goal.returns-in-Err-put_by_parts-clause-put
returns-in-Err-put_by_parts-clause-put g c = one_put _ _ _ _ _ _ (λ given. given.0) c.in_default.ensures.put c.in-Err-put_by_parts.ensures.refused

pub returns-in-Err-put_by_parts-clause-changed : goal.returns-in-Err-put_by_parts-clause-changed
returns-in-Err-put_by_parts-clause-changed g c = λ is given.
    c.in-Err-put_by_parts.ensures.changed (ap (λ (f : PartsFault). Err f) is) (item_later c.standing_stays.ensures _ _ _ _ _ c.put_by_parts.ensures.on given.1)
