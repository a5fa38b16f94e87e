use Rattle.std.proofs.Common.{◌≡◌, [], drop, filter, length}
use Rattle.br_model.specs.File.{is_data}
use Rattle.br_join.specs.Data.{laid_from}
use Rattle.br_data.specs.BodyParts.{joined}
use Rattle.br_join.proofs.file_source.data_of.Given as goal

abbrev pub invariant-loop-record : goal.invariant-loop-record
invariant-loop-record l = record {
  ends : l.end ≡ length (joined l.file.items);
  lays : laid_from [] (filter is_data l.records) ≡ laid_from (joined l.file.items) (filter is_data (drop l.record-index l.records));
}
