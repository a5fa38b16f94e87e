use Rattle.std.proofs.Common.{◌≡◌, take}
use Rattle.std.specs.List.{AllByRecursion}
use Rattle.br_model.specs.Session.{session_records}
use Rattle.br_model.specs.SessionHolds.{IsToSave}
use Rattle.br_session.specs.Records.{AddsUpTo}
use Rattle.br_session.proofs.RecordLaws.{records_at}
use Rattle.br_session.proofs.records.pack.Given as goal

-- the records of the files that are left are to come
abbrev pub invariant-loop-file : goal.invariant-loop-file
invariant-loop-file l = record {
  number : l.number ≡ l.file-index;
  adds : AddsUpTo l.initial.packer l.packer (session_records l.files) (records_at l.file-index l.files);
  valid : AllByRecursion IsToSave (take l.file-index l.files);
}
