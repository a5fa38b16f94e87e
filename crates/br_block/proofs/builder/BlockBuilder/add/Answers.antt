use Rattle.std.proofs.Common.{◌≡◌, ◌+◌, ◌++◌, [], ◌∷◌, ◌≤◌, length, refl, sym, ap, ◌∙◌, arith, append_assoc}
use Rattle.std.specs.List.{AllByRecursion}
use Rattle.std.proofs.lemmas.List.{length-append, append-nil}
use Rattle.br_model.specs.Block.{Fragment, fragment_bytes}
use Rattle.br_model.specs.Session.{block_size}
use Rattle.br_model.proofs.BlockLaws.{length-fragment_bytes}
use Rattle.br_block.proofs.BuildingLaws.{size_is, added}
use Rattle.br_block.specs.Building.{Building, fragments_after, IsBuilding}
use Rattle.br_block.proofs.builder.BlockBuilder.add.Goals as goal

data_is : (c : goal.In_ok-extend_from_slice-2) → c.fragment.inside.bytes.now ≡ c.args.fragment.now.bytes
data_is c = ap (λ (f : Fragment). f.bytes) c.fragment.view_is

joined : (c : goal.In_ok-extend_from_slice-2) → c.extend_from_slice-2.new.self.items ≡ c.self.inside.bytes.items ++ fragment_bytes c.args.fragment.now
joined c =
    let header = c.record_header-header.result in
    let bytes = c.self.inside.bytes.items in
    c.in_ok-extend_from_slice-2.ensures.items
    ∙ ap (λ x. x ++ c.fragment.inside.bytes.now) (c.in_ok-extend_from_slice.ensures.items ∙ ap (λ x. x ++ header) c.reserve.ensures.items)
    ∙ append_assoc bytes header c.fragment.inside.bytes.now
    ∙ ap (λ x. bytes ++ (header ++ x)) (data_is c)
    ∙ ap (λ x. bytes ++ x) c.record_header-header.ensures.text

both : (c : goal.In_ok-extend_from_slice-2)
    → IsBuilding c.self.inside.session c.self.inside.limit c.self.inside.number c.extend_from_slice-2.new.self.items
    × (fragments_after c.self.inside.session c.extend_from_slice-2.new.self.items ≡ fragments_after c.self.inside.session c.self.inside.bytes.items ++ c.args.fragment.now ∷ [])
both c =
    let b = c.self.inside in
    let f = c.args.fragment.now in
    let more = c.extend_from_slice-2.new.self.items in
    let size = size_is b.session b.limit b.number b.bytes.items c.self.invariant in
    let fits : block_size (fragments_after b.session b.bytes.items) + 12 + length f.bytes ≤ b.limit = rw (← c.self.view_is) at c.requires.fits in
    let whole : AllByRecursion (λ (g : Fragment). length g.bytes ≡ g.size) (fragments_after b.session b.bytes.items) = rw (← c.self.view_is) at c.requires.whole in
    let key : f.session ≡ b.session = c.requires.of_session ∙ sym (ap (λ (x : Building). x.session) c.self.view_is) in
    let long : length more ≤ b.limit = omega (arith, size, fits, ap length (joined c), length-append b.bytes.items (fragment_bytes f), ap length (append-nil (fragment_bytes f)), length-fragment_bytes f []) in
    added b.session b.limit b.number b.bytes.items more f c.self.invariant (joined c) long whole c.requires.within (record {
      session_is = key;
      index_fits = c.record_header-header.ensures.index;
      stream_fits = c.record_header-header.ensures.stream;
      size_fits = c.record_header-header.ensures.size;
    })

pub invariant_of-self-2 : goal.invariant_of-self-2
invariant_of-self-2 c = (both c).0

pub returns-clause-ok : goal.returns-clause-ok
returns-clause-ok c = rw ((both c).1, ← c.self.view_is) refl
