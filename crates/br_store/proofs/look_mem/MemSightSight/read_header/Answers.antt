use Rattle.std.proofs.Common.{take, ap, sym, ◌∙◌}
use Rattle.br_store.proofs.LookParts.{front_read}
use Rattle.br_store.proofs.look_mem.MemSightSight.read_header.Goals as goal

pub returns-clause-front : goal.returns-clause-front
returns-clause-front c = ap (λ xs. take 32 xs) (sym c.deref.ensures.value)
    ∙ front_read _ _ _ c.copy_front.ensures.part c.copy_front.ensures.count (c.copy_front.ensures.room ∙ c.requires)
