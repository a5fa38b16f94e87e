use Rattle.std.proofs.Common.{ℕ, drop, sym, ap, ◌∙◌, arith}
use Rattle.br_model.proofs.VolumeLaws.{header_reads}
use Rattle.br_block.proofs.HeaderLaws.{holds_header}
use Rattle.br_block.proofs.FragmentLaws.{of_block, few_of}
use Rattle.br_block.proofs.block.Block.fragments.Goals as goal

pub split_at-requires : goal.split_at-requires
split_at-requires c =
    let fits = holds_header c.args.self.now c.bytes-bytes.result.now c.head-head.result _ c.head-head.ensures.header c.head.view_is c.bytes-bytes.ensures.same in
    omega (arith, fits, c.header_len.ensures)

pub returns-clause-read : goal.returns-clause-read
returns-clause-read c =
    let behind = c.split_at.ensures.back ∙ ap (λ (n : ℕ). drop n c.bytes-bytes.result.now) c.header_len.ensures in
    let read = of_block c.args.self.now c.bytes-bytes.result.now c.split_at.result.1.now c.head-head.result _ c.head-head.ensures.header c.head.view_is c.bytes-bytes.ensures.same behind in
    c.new.ensures ∙ read

pub returns-clause-exact : goal.returns-clause-exact
returns-clause-exact c = (c.fragments_are_exact.ensures c.args.self.now c.new.result c.bytes-bytes.ensures.bytes).1 (sym (returns-clause-read c))

pub returns-clause-few : goal.returns-clause-few
returns-clause-few c =
    let reads = header_reads c.args.self.now c.head-head.result c.head-head.ensures.header in
    rw (returns-clause-read c) (few_of c.args.self.now reads.long)

pub returns-clause-most : goal.returns-clause-most
returns-clause-most c = omega (arith, c.head-head.ensures.whole, c.head-head.ensures.most)
