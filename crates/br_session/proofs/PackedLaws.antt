-- The blocks of packed records can be read.
use Rattle.std.proofs.Common.{◌≡◌, ℕ, ◌+◌, ◌≤◌, false, ltb, cond, List, [], ◌∷◌, length, take, map, Ok, Err, sym, ap, subst, ◌∙◌, arith}
use Rattle.std.proofs.lemmas.Bool.{le-ltb}
use Rattle.std.proofs.lemmas.List.{take_all}
use Rattle.std.specs.List.{enumerate_from}
use Rattle.br_model.specs.Answer.{◌>>=◌}
use Rattle.br_model.specs.Name.{SessionKey}
use Rattle.br_model.specs.Block.{Fragment, Header, read_block}
use Rattle.br_model.specs.Record.{Record}
use Rattle.br_model.specs.Session.{block_size, AreClosed, written_block, ArePacked}
use Rattle.br_model.proofs.WrittenBlockLaws.{IsKey, written_header, length-written_block}
use Rattle.br_session.specs.Spans.{AreReadable}

block_is_read : (key : SessionKey) (block : ℕ × List Fragment) → IsKey key → block_size block.1 ≤ 4194304 → read_block (written_block key block) ≡ Ok (written_block key block)
unfolding read_block
block_is_read key block is to =
    let bytes = written_block key block in
    let size = length-written_block key block in
    let head : read_block bytes ≡ cond (ltb (length bytes) (block_size block.1)) (Err 12) (Ok (take (block_size block.1) bytes)) =
    ap (λ r. r >>= (λ (h : Header). cond (ltb (length bytes) h.size) (Err 12) (Ok (take h.size bytes)))) (written_header key block is to) in
    let test : ltb (length bytes) (block_size block.1) ≡ false = le-ltb (length bytes) (block_size block.1) (omega (arith, size)) in
    head ∙ rw test (ap (λ (bs : List ℕ). Ok bs) (take_all (block_size block.1) bytes (omega (arith, size))))

parts_are_read : (key : SessionKey) (limit n : ℕ) (parts : List (List Fragment)) → IsKey key → limit ≤ 64512 → AreClosed limit parts
    → AreReadable (map (written_block key) (enumerate_from n parts))
parts_are_read key limit n [] is to closed = tt
parts_are_read key limit n (part ∷ []) is to closed = (block_is_read key (n, part) is (omega (arith, closed.1, to)), tt)
parts_are_read key limit n (part ∷ next ∷ more) is to closed =
    (block_is_read key (n, part) is (omega (arith, closed.0.1, to)), parts_are_read key limit (n + 1) (next ∷ more) is to closed.2)

pub packed_are_readable : (limit : ℕ) (key : SessionKey) (records : List Record) (blocks : List (List ℕ)) → IsKey key → limit ≤ 64512 → ArePacked limit key records blocks → AreReadable blocks
packed_are_readable limit key records blocks is to packed = subst AreReadable (sym packed.bytes_are) (parts_are_read key limit 0 packed.parts is to packed.closed)
