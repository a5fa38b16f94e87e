-- The task of `extract`: a bootstrap, over drives, a writer and a sink.
use Rattle.std.specs.Prelude.{◌≡◌, ℕ, List, map, Option, None, option_map, Result, Ok, Err, ⊤}
use Rattle.std.specs.Io.KnownBytes.{Keeps}
use Rattle.std.specs.declared.io.Write as write
use Rattle.br_volume.specs.declared.drive.Drive as drive
use Rattle.br_bsr.specs.declared.fault.BsrFault.{BsrFault}
use Rattle.br_engine.specs.Extracting.{OverVolumes}
use Rattle.br_engine.specs.Outputs.{InSink}
use Rattle.br_engine.specs.Restores.{AreWanted, Change, Extracts, Seen}
use Rattle.br_engine.specs.WantedOutcomes.{reported}
use Rattle.br_engine.specs.declared.extracted.Extracted.{Extracted}
use Rattle.br_engine.specs.declared.fault.ExtractFault.{ExtractFault}
use Rattle.br_engine.specs.declared.fault.ExtractFault.TheVariants.{Bootstrap}
use Rattle.br_engine.specs.declared.restore.Restore.{Restore}
use Rattle.br_engine.specs.declared.restore_order.ReadBootstrap.{ReadBootstrap}
use Rattle.br_types.specs.declared.wanted.Wanted.{Wanted}
use Rattle.br_cli_progress.specs.declared.watched_sink.WatchedSink.{WatchedSink}
use Rattle.br_sink_tar.specs.Stream.{InTar}
use Rattle.br_cli.specs.ExtractEnding.{extent}
use Rattle.br_cli_target.specs.TarEnding.{StreamHolds, told_inside}
use Rattle.br_cli_target.specs.declared.target_tar.Streamed.{Streamed}
use Rattle.br_cli.specs.declared.extract_command.Extraction.{Extraction}

-- The manifest of the files that the bootstrap gives over the drives, the delivery of the wanted
-- ones into the sink, and the report of what is missing; or why there is none. If the text of the
-- bootstrap is refused, the refusal is returned, and nothing was read or written.
abbrev pub ExtractsRead : Result ReadBootstrap BsrFault → Wanted → Change → Result Extracted ExtractFault → Type 0
ExtractsRead (Ok read) wanted seen result =
    Extracts wanted (λ holds. OverVolumes seen.old.told seen.new.told read.bootstrap None holds) (λ rs lines. lines ≡ reported wanted.gaps read.bootstrap read.counts.items rs)
    seen.old.written seen.new.written seen.old.has seen.new.has result
ExtractsRead (Err fault) wanted seen result = (result ≡ Err (Bootstrap fault)) × (seen.new ≡ seen.old)

-- the same for an extraction
abbrev pub ExtractsTo : Extraction → Change → Result Extracted ExtractFault → Type 0
ExtractsTo e seen result = ExtractsRead e.bootstrap.read e.wanted seen result

-- the outcomes are those of the files of the bootstrap that are to be delivered, if its text is not
-- refused
abbrev pub AreWantedOfRead : Result ReadBootstrap BsrFault → Wanted → Change → Result Extracted ExtractFault → Type 0
AreWantedOfRead (Ok read) wanted seen result = AreWanted wanted (λ holds. OverVolumes seen.old.told seen.new.told read.bootstrap None holds) result
AreWantedOfRead (Err fault) wanted seen result = ⊤

-- the same for an extraction
abbrev pub AreWantedTo : Extraction → Change → Result Extracted ExtractFault → Type 0
AreWantedTo e seen result = AreWantedOfRead e.bootstrap.read e.wanted seen result

-- nothing was written or put between these
pub record IsUnused (before at : Seen) : Type 0 where
  pub has : at.has ≡ before.has
  pub written : Keeps before.written at.written

-- The extraction was carried out in the end, and nothing was written or put before.
pub record ExtractsLast (e : Extraction) (seen : Change) (result : Result Extracted ExtractFault) : Type 0 where
  pub at : Seen
  pub unused : IsUnused seen.old at
  pub extracts : ExtractsTo e (record { old = at; new = seen.new }) result
  pub wanted : AreWantedTo e (record { old = at; new = seen.new }) result

-- what a restore into a tar stream and its writer show, if the sink has these files
abbrev pub with_stream : {D W : Type 0} → drive.Ghosts D → write.Ghosts W → Restore D (WatchedSink InTar) × W → InSink → Seen
with_stream drives writer at has = record { told = map drives.shows at.0.drives.items; written = writer.contents at.1; has = has }

-- The extraction was carried out in the end, with the files that were reported to the sink. The sink's stream
-- is that of the reported files. It has an end if all files were put and the end could be written.
abbrev pub StreamsTo : {D W T : Type 0} → drive.Ghosts D → write.Ghosts W → (T → Option (List ℕ)) → Extraction
    → Restore D (WatchedSink InTar) × W → Restore D (WatchedSink InTar) × W → Streamed (Result Extracted ExtractFault) T → Type 0
StreamsTo drives writer holds e before after s =
    (now : InSink)
    × ExtractsLast e (record { old = with_stream drives writer before (option_map told_inside before.0.sink); new = with_stream drives writer after now }) s.run
    × StreamHolds (extent s.run) now s.end (option_map holds s.writer)
