use Rattle.std.proofs.Common.{◌≡◌, ◌+◌, ◌/◌, length}
use Rattle.std.specs.Slice.Iter.{chunks_rest, chunks_size}
use Rattle.br_model.specs.Session.{data_records}
use Rattle.br_session.specs.Records.{AddsUpTo}
use Rattle.br_session.proofs.records.add_data.Given as goal

-- the records of the bytes that are left are to come
abbrev pub invariant-loop-part : goal.invariant-loop-part
invariant-loop-part l = record {
  adds : AddsUpTo l.initial.packer l.packer (data_records l.index (length l.bytes / 65536 + 1) l.bytes) (data_records l.index (length (chunks_rest l.part-iterator) / 65536 + 1) (chunks_rest l.part-iterator));
  size : chunks_size l.part-iterator ≡ 65536;
}
