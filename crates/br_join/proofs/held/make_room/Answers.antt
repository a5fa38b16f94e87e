use Rattle.std.proofs.Common.{◌≡◌, List, sym, subst}
use Rattle.br_model.specs.Meaning.{Hit, hits_of, with_hits}
use Rattle.br_join.specs.Front.{AreOf}
use Rattle.br_join.proofs.held.make_room.Goals as goal

pub returns-clause-fronts : goal.returns-clause-fronts
returns-clause-fronts c =
    let taken = c.args.taken.now.items in
    let earlier : c.deref-2.result.now ≡ taken = c.deref-2.ensures.value in
    λ known.
    subst (λ (hs : List Hit). AreOf (with_hits (hits_of taken) hs) c.note.new.self) c.deref-3.ensures.value
    (c.note.ensures (hits_of taken)
    (subst (λ (hs : List Hit). AreOf (hits_of hs) c.begin_if.new.self) earlier
    (c.begin_if.ensures (subst (λ (hs : List Hit). AreOf (hits_of hs) c.args.fronts.now) (sym earlier) known))))
