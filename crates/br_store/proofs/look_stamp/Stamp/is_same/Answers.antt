use Rattle.br_store.proofs.LookMoments.{same_stamp}
use Rattle.br_store.proofs.look_stamp.Stamp.is_same.Goals as goal

pub returns-then-is_of : goal.returns-then-is_of
returns-then-is_of c = λ same.
    let of = c.is_of.ensures in let from = c.is_from.ensures in
    same_stamp _ _ (of.len c.if-is_of.true) (of.device c.if-is_of.true) (of.inode c.if-is_of.true) (from.written same) (from.changed same)
