use Rattle.std.proofs.Common.{◌≡◌, ℕ, ◌+◌, ◌%◌, ◌^◌, ◌<◌, List, [], ◌∷◌, ◌++◌, map, refl, sym, ap, subst, ◌∙◌, arith, Vec, Global}
use Rattle.std.specs.Prelude.{min}
use Rattle.std.proofs.lemmas.List.{map-append, append-nil}
use Rattle.br_model.specs.Block.{Fragment}
use Rattle.br_model.specs.Session.{block_size, IsPart, AreClosed, written_block}
use Rattle.br_block.specs.Building.{Building}
use Rattle.br_session.specs.Whole.{are_whole}
use Rattle.br_session.specs.Packing.{all_of}
use Rattle.br_session.proofs.PackingLaws.{none_are_whole, size_of_some, goes_in, goes_behind, all_of-with, blocks_with, number_with}
use Rattle.br_session.proofs.packing.Packer.make_room.Goals as goal

pub returns-then-min-room-clause-follows : goal.returns-then-min-room-clause-follows
returns-then-min-room-clause-follows c =
    let p = c.args.self.now in
    λ fragments put. record {
      closed = put.closed;
      are_in = put.are_in;
      next = λ f size full part. goes_in p.limit put.closed p.current.fragments f put.first put.are_closed part;
    }

pub invariant_of-self : goal.invariant_of-self
invariant_of-self c =
    let p = c.args.self.now in
    let made = c.replace-full.ensures.after ∙ c.in_ok-next.ensures in
    record {
      bounds = p.bounds;
      same_session = ap (λ (b : Building). b.session) made;
      same_limit = ap (λ (b : Building). b.limit) made;
      whole = λ _. ap (λ (b : Building). are_whole b.fragments) made ∙ none_are_whole;
    }

pub returns-clause-follows : goal.returns-clause-follows
returns-clause-follows c =
    let p = c.args.self.now in
    let last = p.current.fragments in
    let made = c.replace-full.ensures.after ∙ c.in_ok-next.ensures in
    let none : c.replace-full.new.dest.fragments ≡ [] = ap (λ (b : Building). b.fragments) made in
    let number : c.replace-full.new.dest.number ≡ (p.number + 1) % 2 ^ 32 = ap (λ (b : Building). b.number) made in
    let closes : p.limit < block_size last + 12 + min 1 c.args.size = omega (arith, p.same_limit) in
    λ fragments put.
    let i = put.are_in in
    let was : c.close.result.items ≡ written_block p.session (p.number, last) =
    c.close.ensures.block ∙ ap (λ (b : Building). written_block b.session (b.number, b.fragments)) c.replace-full.ensures.value
    ∙ rw (p.same_session, i.current_is) refl in
    let blocks = map {A = Vec ℕ Global} {B = List ℕ} (λ b. b.items) p.blocks.items in
    let joined : map {A = Vec ℕ Global} {B = List ℕ} (λ b. b.items) c.push.new.self.items ≡ blocks ++ written_block p.session (p.number, last) ∷ [] =
    ap (map {A = Vec ℕ Global} {B = List ℕ} (λ b. b.items)) c.in_ok-push.ensures.items ∙ map-append {A = Vec ℕ Global} {B = List ℕ} (λ b. b.items) p.blocks.items (c.close.result ∷ [])
    ∙ ap (λ (x : List ℕ). blocks ++ x ∷ []) was in
    record {
      closed = put.closed ++ last ∷ [];
      are_in = record {
        blocks_are = joined ∙ blocks_with p.session p.number put.closed last blocks i.blocks_are i.number_is;
        number_is = number_with p.number put.closed last i.number_is;
        current_is = number;
        fragments_are = i.fragments_are ∙ sym (all_of-with put.closed last) ∙ sym (append-nil (all_of (put.closed ++ last ∷ []))) ∙ ap (λ (x : List Fragment). all_of (put.closed ++ last ∷ []) ++ x) (sym none);
        of_session = i.of_session;
      };
      next = λ f size full part.
          let part_of : IsPart p.limit (f ∷ []) = subst (λ (x : List Fragment). IsPart p.limit (x ++ f ∷ [])) none part in
          subst (λ (x : List Fragment). AreClosed p.limit ((put.closed ++ last ∷ []) ++ (x ++ f ∷ []) ∷ [])) (sym none)
          (goes_behind p.limit put.closed last f (size_of_some last (omega (arith, closes, p.bounds))) put.are_closed (rw size closes) full part_of);
    }
