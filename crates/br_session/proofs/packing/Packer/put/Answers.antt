use Rattle.std.proofs.Common.{◌≡◌, ◌+◌, ◌<◌, List, [], ◌∷◌, ◌++◌, length, take, refl, sym, ap, subst, ◌∙◌, arith, append_assoc, w32, to_z, of_z}
use Rattle.std.specs.Prelude.{pos}
use Rattle.std.proofs.lemmas.Int.{to_z_pos, to_z-of_z}
use Rattle.std.proofs.lemmas.List.{length-take}
use Rattle.br_model.specs.Block.{Fragment}
use Rattle.br_model.specs.Session.{block_size, IsPart, AreClosed}
use Rattle.br_model.proofs.ListLaws.{all_append}
use Rattle.br_block.specs.Building.{Building}
use Rattle.br_session.specs.Packing.{all_of, with_last}
use Rattle.br_session.proofs.PackingLaws.{whole_each, added_or_not, part_more, some_more, with_more}
use Rattle.br_session.proofs.packing.Packer.put.Goals as goal

pub add-requires-clause-whole : goal.add-requires-clause-whole
add-requires-clause-whole c =
    let p = c.make_room.new.self in
    let room = c.in_ok-make_room.ensures.room in
    whole_each p.current.fragments (p.whole (omega (arith, room)))

pub invariant_of-self : goal.invariant_of-self
invariant_of-self c =
    let p = c.make_room.new.self in
    let room = c.in_ok-make_room.ensures.room in
    let take_is = length-take c.min-taken.result c.args.left.now in
    let full : length (take c.min-taken.result c.args.left.now) < length c.args.left.now → block_size p.current.fragments + 12 + length (take c.min-taken.result c.args.left.now) ≡ p.limit =
    λ less. omega (arith, p.same_limit) in
    let kept = added_or_not c.add.result p.current c.add.new.self _ p.limit c.add.ensures.ok c.add.ensures.err (p.whole (omega (arith, room))) full (omega (arith, take_is)) in
    record {
      bounds = p.bounds;
      same_session = kept.0 ∙ p.same_session;
      same_limit = kept.1 ∙ p.same_limit;
      whole = kept.2;
    }

-- the fragment that was added
fragment : (c : goal.In_ok-add) → Fragment
fragment c = record {
  session = c.args.self.now.session;
  index = pos c.args.index;
  stream = c.args.stream;
  size = length c.args.left.now;
  bytes = take c.min-taken.result c.args.left.now;
}

current_is : (c : goal.In_ok-add)
    → c.add.new.self ≡ record c.make_room.new.self.current { fragments = c.make_room.new.self.current.fragments ++ fragment c ∷ [] }
unfolding fragment
current_is c =
    let index : to_z w32 c.get.result ≡ pos c.args.index = ap (to_z w32) c.get.ensures.same ∙ to_z_pos w32 c.args.index (omega (arith, c.get.ensures.to_greatest)) in
    let stream : to_z w32 (of_z w32 c.args.stream) ≡ c.args.stream = to_z-of_z w32 c.args.stream c.ranges.stream in
    c.in_ok-add.ensures.ok ∙ rw (index, stream, c.in_ok-make_room.ensures.session) refl

pub returns-clause-follows : goal.returns-clause-follows
unfolding fragment
returns-clause-follows c =
    let p = c.make_room.new.self in
    let before = p.current.fragments in
    let f = fragment c in
    let made = current_is c in
    let fragments_are : c.add.new.self.fragments ≡ before ++ f ∷ [] = ap (λ (b : Building). b.fragments) made in
    let room = c.in_ok-make_room.ensures.room in
    let session = c.in_ok-make_room.ensures.session in
    let limit = c.in_ok-make_room.ensures.limit in
    let take_is = length-take c.min-taken.result c.args.left.now in
    let part : IsPart p.limit (before ++ f ∷ []) =
    part_more p.limit before f (p.whole (omega (arith, room))) (omega (arith, take_is, room, p.same_limit)) (omega (arith, take_is)) (λ lt. omega (arith, take_is, room, p.same_limit)) in
    λ fragments put.
    let h = c.in_ok-make_room.ensures.follows fragments put in
    let i = h.are_in in
    record {
      closed = h.closed;
      are_in = record {
        blocks_are = i.blocks_are;
        number_is = i.number_is;
        current_is = ap (λ (b : Building). b.number) made ∙ i.current_is;
        fragments_are = ap (λ (x : List Fragment). x ++ f ∷ []) i.fragments_are ∙ append_assoc (all_of h.closed) before (f ∷ []) ∙ ap (λ (x : List Fragment). all_of h.closed ++ x) (sym fragments_are);
        of_session = all_append (λ (g : Fragment). g.session ≡ p.session) fragments (f ∷ []) i.of_session (sym session, tt);
      };
      first = λ e. absurd (some_more before f (sym fragments_are ∙ e));
      are_closed = subst (λ (x : List Fragment). AreClosed p.limit (with_last h.closed x)) (sym fragments_are)
          (rw (with_more h.closed before f) (h.next f refl (λ e. c.requires.filled e ∙ sym limit) part));
    }
