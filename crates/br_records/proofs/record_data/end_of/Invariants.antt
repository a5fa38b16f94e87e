use Rattle.std.proofs.Common.{◌≡◌, drop}
use Rattle.br_records.specs.Outline.{end_from}
use Rattle.br_records.proofs.record_data.end_of.Given as goal

abbrev pub invariant-loop-record : goal.invariant-loop-record
invariant-loop-record l = end_from 0 l.records ≡ end_from l.end (drop l.record-index l.records)
