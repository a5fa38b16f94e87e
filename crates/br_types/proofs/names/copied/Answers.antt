use Rattle.std.specs.Map.Iter.{deref_pair}
use Rattle.std.proofs.lemmas.Map.Iter.{rest_more}
use Rattle.br_types.proofs.KeyLaws.{copied_more}
use Rattle.br_types.proofs.names.copied.Goals as goal

pub loop-key-preserved-in_ok-insert : goal.loop-key-preserved-in_ok-insert
loop-key-preserved-in_ok-insert c =
    copied_more c.loop-key.copy.entries _ _ _ _ c.in-Some.key.now c.in-Some.path.now c.in_ok-copy.field-0 c.loop-key.invariant
    (rest_more deref_pair _ _ _ _ c.in-Some.is c.next.ensures.steps) c.iter-key-items.ensures.ordered c.in_ok-copy.ensures c.in_ok-insert.ensures.entries

pub loop-key-preserved : goal.loop-key-preserved
loop-key-preserved c =
    copied_more c.loop-key.copy.entries _ _ _ _ c.in-Some.key.now c.in-Some.path.now c.in_ok-copy.field-0 c.loop-key.invariant
    (rest_more deref_pair _ _ _ _ c.in-Some.is c.next.ensures.steps) c.iter-key-items.ensures.ordered c.in_ok-copy.ensures c.in_ok-insert.ensures.entries
