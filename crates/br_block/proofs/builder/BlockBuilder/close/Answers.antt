use Rattle.std.proofs.Common.{◌≡◌, ◌++◌, length, drop, take, Some, Ok, refl, ap, ◌∙◌, arith}
use Rattle.br_model.specs.Session.{written_block}
use Rattle.br_block.proofs.BuildingLaws.{written_back, closed_is, closed_is_whole, closed_reads_back}
use Rattle.br_model.specs.Block.{Header, header_bytes, read_header, fragment_bytes}
use Rattle.br_model.proofs.WrittenBlockLaws.{behind_header}
use Rattle.std.specs.Prelude.{flat_map}
use Rattle.br_block.specs.Building.{Building, fragments_after}
use Rattle.br_block.proofs.builder.BlockBuilder.close.Goals as goal

-- the bytes of the vector after the call
back : (c : goal.After-bytes-3-1) → take c.self.inside.bytes.len (c.put_header.new.bytes ++ drop (length c.put_header.new.bytes) c.self.inside.bytes.items) ≡ c.put_header.new.bytes
back c =
    let b = c.self.inside.bytes in
    let same = c.put_header.auto.bytes in
    written_back c.put_header.new.bytes b.items b.len (omega (arith, b.ok)) (omega (arith, b.ok))

closed : (c : goal.After-bytes-3-1) → c.put_header.new.bytes ≡ written_block c.self.inside.session (c.self.inside.number, fragments_after c.self.inside.session c.self.inside.bytes.items)
closed c =
    let b = c.self.inside in
    let len : c.len.result ≡ length b.bytes.items = omega (arith, b.bytes.ok) in
    let said : c.put_header.new.bytes ≡ header_bytes (record { checksum = 0; size = c.len.result; number = b.number; session = Some b.session }) ++ drop 24 c.deref_mut.result.now = c.put_header.ensures.text in
    said ∙ rw (len, c.deref_mut.ensures.value) (closed_is b.session b.limit b.number b.bytes.items c.self.invariant)

pub returns-clause-block : goal.returns-clause-block
returns-clause-block c = back c ∙ closed c ∙ ap (λ (b : Building). written_block b.session (b.number, b.fragments)) c.self.view_is

abbrev header : (c : goal.After-bytes-3-1) → Header
header c = record { checksum = 0; size = c.len.result; number = c.self.inside.number; session = Some c.self.inside.session }

read : (c : goal.After-bytes-3-1) → read_header c.put_header.new.bytes ≡ Ok (header c)
read c =
    let i = c.self.invariant in
    let ok = c.self.inside.bytes.ok in
    c.put_header.ensures.reads_back (omega (arith, i.least, ok)) (omega (arith, i.most, i.bound, ok))

pub returns-clause-whole : goal.returns-clause-whole
returns-clause-whole c = rw (back c) (closed_is_whole c.put_header.new.bytes (header c) (read c) (omega (arith, c.put_header.auto.bytes, c.self.inside.bytes.ok)))

pub returns-clause-reads_back : goal.returns-clause-reads_back
returns-clause-reads_back c =
    let b = c.self.inside in
    let i = c.self.invariant in
    let fs = fragments_after b.session b.bytes.items in
    let behind : drop 24 c.put_header.new.bytes ≡ flat_map fragment_bytes fs =
    ap (drop 24) c.put_header.ensures.text ∙ behind_header (header c) (drop 24 c.deref_mut.result.now) ∙ ap (drop 24) c.deref_mut.ensures.value ∙ i.joined in
    rw (back c) (closed_reads_back c.put_header.new.bytes (header c) b.session fs (read c) refl behind i.filled i.each ∙ ap (λ (x : Building). x.fragments) c.self.view_is)
