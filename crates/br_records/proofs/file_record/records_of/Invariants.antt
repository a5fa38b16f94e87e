use Rattle.std.proofs.Common.{◌≡◌, ◌≤◌}
use Rattle.std.specs.Option.{IfNone}
use Rattle.br_model.specs.Record.{join}
use Rattle.br_records.specs.Opening.{joined_from}
use Rattle.br_records.specs.Records.{fragments}
use Rattle.br_records.proofs.file_record.records_of.Given as goal

abbrev pub invariant-loop-i : goal.invariant-loop-i
invariant-loop-i l = record {
  within : l.first ≤ l.i;
  none : IfNone l.opened (l.first ≡ l.i);
  joins : join (fragments l.hits) ≡ joined_from l.hits l.index l.records.items l.opened l.first l.i;
}
