use Rattle.br_reread_files.proofs.TwoLaws.{both_later, puts_after}
use Rattle.br_reread_files.proofs.gathered.Gathered.put_two_by_parts.Goals as goal

pub returns-clause-put : goal.returns-clause-put
returns-clause-put g c =
    puts_after _ _ c.put_one_by_one.result _ _ _ _ _
    (both_later c.standing_stays.ensures _ _ c.args.self.now.hits _ _ _ _ c.put_side_by_side.ensures.on)
    c.in_default.ensures.put
    c.put_one_by_one.ensures.put

pub returns-clause-changed : goal.returns-clause-changed
returns-clause-changed g c = λ is given.
    c.put_one_by_one.ensures.changed is (both_later c.standing_stays.ensures _ _ c.args.self.now.hits _ _ _ _ c.put_side_by_side.ensures.on given)
