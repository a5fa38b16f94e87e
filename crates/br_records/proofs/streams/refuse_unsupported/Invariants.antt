use Rattle.std.proofs.Common.{◌≡◌, drop}
use Rattle.br_model.specs.File.{unsupported}
use Rattle.br_records.proofs.streams.refuse_unsupported.Given as goal

abbrev pub invariant-loop-record : goal.invariant-loop-record
invariant-loop-record l = unsupported l.records ≡ unsupported (drop l.record-index l.records)
