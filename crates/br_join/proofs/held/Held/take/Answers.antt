use Rattle.std.proofs.Common.{List, rules, sym, ap, subst, ◌++◌, ◌∙◌}
use Rattle.br_model.specs.Meaning.{Hit, Hits, hits_of}
use Rattle.br_join.specs.Front.{AreOf}
use Rattle.br_join.proofs.TakingLaws.{took_more}
use Rattle.br_join.proofs.held.Held.take.Goals as goal

pub returns-clause-ok : goal.returns-clause-ok
returns-clause-ok c =
    took_more c.args.self.now c.make_room.new.taken.items c.append.new.list.items c.args.hits.items (ap hits_of c.make_room.ensures.taken ∙ search rules)
    (c.append.ensures ∙ ap (λ (hits : List Hit). c.make_room.new.taken.items ++ hits) c.make_room.ensures.hits)

pub invariant_of-self-2 : goal.invariant_of-self-2
invariant_of-self-2 c =
    subst (λ (s : Hits). AreOf s c.make_room.new.fronts)
    (sym (took_more (hits_of c.try_reserve.new.self.items) c.make_room.new.taken.items c.append.new.list.items c.args.hits.items (ap hits_of c.make_room.ensures.taken)
    (c.append.ensures ∙ ap (λ (hits : List Hit). c.make_room.new.taken.items ++ hits) c.make_room.ensures.hits)))
    (c.make_room.ensures.fronts (subst (λ (hs : List Hit). AreOf (hits_of hs) c.self.inside.fronts) (sym c.try_reserve.ensures.items) c.self.invariant))
