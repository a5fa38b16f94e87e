-- What a check of a bootstrap prints, and how it ends.
use Rattle.std.specs.Prelude.{◌≡◌, ℕ, List, [], Result, Ok, Err, if◌then◌else◌}
use Rattle.std.specs.Io.KnownBytes.{Appends}
use Rattle.std.specs.declared.io.Write as write
use Rattle.br_model.specs.Meaning.{Piece, pieces_of}
use Rattle.br_model.specs.Text.{is_empty}
use Rattle.br_volume.specs.declared.drive.Drive.{Ghosts}
use Rattle.br_check.specs.Check.{ChecksOver, checked_text}
use Rattle.br_check.specs.declared.run.Checked.{Checked}
use Rattle.br_bsr.specs.declared.fault.BsrFault.{BsrFault}
use Rattle.br_check.specs.ChecksumPieces.{SumsOver}
use Rattle.br_check.specs.Shown.{Shown, shown_between}
use Rattle.br_cli_common.specs.declared.options.Checksums.{Checksums}
use Rattle.br_cli_common.specs.declared.options.Checksums.TheVariants.{Compared, Passed}
use Rattle.br_engine.specs.Fault.{IsFree, fault_text}
use Rattle.br_engine.specs.declared.fault.ExtractFault.{ExtractFault}
use Rattle.br_engine.specs.declared.fault.ExtractFault.TheVariants.{Bootstrap}
use Rattle.br_engine.specs.declared.restore_order.ReadBootstrap.{ReadBootstrap}
use Rattle.br_cli.specs.ExtractEnding.{fault_status}
use Rattle.br_cli.specs.declared.check_command.CheckTask.{CheckTask}

-- 0 if nothing was found, else 1
abbrev pub checked_status : Checked → ℕ
checked_status checked = if is_empty checked.findings.items then 0 else 1

-- what was said of the checksums of some pieces was added to what was found
pub record HasSums (s : Shown) (pieces : List Piece) (first checked : Checked) : Type 0 where
  pub findings : SumsOver s pieces first.findings.items checked.findings.items
  pub files : checked.files ≡ first.files
  pub bytes : checked.bytes ≡ first.bytes
  pub memory : checked.memory ≡ first.memory

-- what a check of a bootstrap finds over the drive for a restore that holds this number of bytes of
-- data; then, if checksums are compared, the report about those
abbrev pub ChecksFor : {D : Type 0} → Ghosts D → D → D → ReadBootstrap → ℕ → Checksums → Checked → Type 0
ChecksFor drives earlier later read budget Passed checked = ChecksOver (shown_between drives earlier later) read.bootstrap read.counts.items budget checked
ChecksFor {D} drives earlier later read budget Compared checked =
    (between : D) × (first : Checked) × ChecksOver (shown_between drives earlier between) read.bootstrap read.counts.items budget first
    × HasSums (shown_between drives between later) (pieces_of read.bootstrap) first checked

-- The findings of a check of a bootstrap over the drive were appended to what the writer held, and
-- the status is that of the findings. Else memory ran out, or the writer failed. If the text of the
-- bootstrap is refused, the refusal is returned, and nothing was read or written.
abbrev pub ChecksRead : {D W : Type 0} → Ghosts D → write.Ghosts W → Result ReadBootstrap BsrFault → CheckTask D × W → CheckTask D × W → Result ℕ ExtractFault → Type 0
ChecksRead drives writer (Ok read) before after (Ok status) =
    (checked : Checked) × ChecksFor drives before.0.drive after.0.drive read before.0.memory before.0.checksums checked
    × Appends (writer.contents before.1) (writer.contents after.1) (checked_text checked) × (status ≡ checked_status checked)
ChecksRead drives writer (Ok read) before after (Err fault) = IsFree fault
ChecksRead drives writer (Err line) before after result = (result ≡ Err (Bootstrap line)) × (after ≡ before)

-- the bootstrap of a task was checked like this over its drive
abbrev pub ChecksTask : {D W : Type 0} → Ghosts D → write.Ghosts W → CheckTask D × W → CheckTask D × W → Result ℕ ExtractFault → Type 0
ChecksTask drives writer before after result = ChecksRead drives writer before.0.bootstrap.read before after result

-- the status from the findings; 3 if reading or writing failed, 1 for any other fault
abbrev pub run_status : Result ℕ ExtractFault → ℕ
run_status (Ok status) = status
run_status (Err fault) = fault_status fault

-- the line of the refusal
abbrev pub run_refusal : Result ℕ ExtractFault → List ℕ
run_refusal (Ok status) = []
run_refusal (Err fault) = fault_text fault
