use Rattle.std.proofs.Common.{drop}
use Rattle.br_block.proofs.BuildingLaws.{header_in_front}
use Rattle.br_block.proofs.builder.put_header.Goals as goal

pub returns-clause-reads_back : goal.returns-clause-reads_back
returns-clause-reads_back c =
    λ from to. rw c.copy_from_slice.ensures.after (header_in_front c.args.head c.write.new.bytes (drop 24 c.args.bytes.now) c.write.ensures.text (c.write.ensures.reads_back from to))
