-- The end of a tar stream of restored files.
use Rattle.std.specs.Prelude.{◌≡◌, ◌⊎◌, ◌++◌, ◌==◌, ℕ, false, List, [], ◌∷◌, Option, Some, None, codes, decimal, if◌then◌else◌, ⊤}
use Rattle.br_model.specs.File.{Item}
use Rattle.br_model.specs.Text.{refused_line}
use Rattle.br_sink.specs.Fault.{fault_number}
use Rattle.br_sink.specs.declared.fault.SinkFault.TheVariants.{Fault}
use Rattle.br_cli_progress.specs.declared.watched_sink.WatchedSink.{WatchedSink}
use Rattle.br_sink_tar.specs.Stream.{HoldsCut, HoldsTar, InTar, told}
use Rattle.br_cli_target.specs.declared.target_tar.PutExtent.{PutExtent}
use Rattle.br_cli_target.specs.declared.target_tar.PutExtent.TheVariants as extents
use Rattle.br_cli_target.specs.declared.target_tar.TarEnd.{TarEnd}
use Rattle.br_cli_target.specs.declared.target_tar.TarEnd.TheVariants.{Whole, Cut, Refused}
use Rattle.br_cli_target.specs.declared.target_tar.TarFault.{TarFault}
use Rattle.br_cli_target.specs.declared.target_tar.TarFault.TheVariants as faults

-- the files that were reported to a watched sink, if it reports them
abbrev pub told_inside : WatchedSink InTar → Option (List Item)
told_inside s = told s.inner

-- the number of the refusal
abbrev pub tar_fault_number : TarFault → ℕ
tar_fault_number faults.Memory = 1
tar_fault_number faults.NoFile = 81

-- a sink without files, over a writer that held this
abbrev pub IsNewOver : Option (List ℕ) → InTar → Type 0
IsNewOver start s = (s.start ≡ start) × (s.items ≡ []) × (s.has_failed ≡ false) × (s.left_out ≡ 0)

-- What the writer holds, if the sink reports its files: their stream; or their entries and a first
-- part of what follows; either of these if the end could not be written.
abbrev pub HoldsBy : Option (List Item) → TarEnd → Option (List ℕ) → Type 0
HoldsBy told (Whole n) stream = HoldsTar told stream
HoldsBy told Cut stream = HoldsCut told stream
HoldsBy told (Refused why) stream = HoldsTar told stream ⊎ HoldsCut told stream

-- the state of a stream that could not be flushed
abbrev pub not_flushed : TarEnd → TarEnd
not_flushed (Whole n) = Refused Fault
not_flushed Cut = Cut
not_flushed (Refused why) = Refused why

-- the same, or that of a stream that could not be flushed
abbrev pub IsFlushed : TarEnd → TarEnd → Type 0
IsFlushed end later = (later ≡ end) ⊎ (later ≡ not_flushed end)

-- a finished stream was flushed, if `shown` says that its writer was
abbrev pub IsShown : Type 0 → TarEnd → Type 0
IsShown shown (Whole n) = shown
IsShown shown Cut = ⊤
IsShown shown (Refused why) = ⊤

-- this number of files has no entry in a finished stream
abbrev pub IsClosed : ℕ → TarEnd → Type 0
IsClosed left_out (Whole n) = n ≡ left_out
IsClosed left_out Cut = ⊥
IsClosed left_out (Refused why) = ⊤

-- a stream without all of the files has no end
abbrev pub EndsBy : PutExtent → ℕ → TarEnd → Type 0
EndsBy extents.All left_out end = IsClosed left_out end
EndsBy extents.Part left_out end = end ≡ Cut

-- the stream of a sink has an end exactly if all files were put and the end could be written
abbrev pub IsEnded : PutExtent → TarEnd → Type 0
IsEnded extents.All (Whole n) = ⊤
IsEnded extents.All Cut = ⊥
IsEnded extents.All (Refused why) = ⊤
IsEnded extents.Part end = end ≡ Cut

-- the same, and what its writer holds, if there is a sink
abbrev pub StreamHolds : PutExtent → Option (Option (List Item)) → TarEnd → Option (Option (List ℕ)) → Type 0
StreamHolds extent None end None = ⊤
StreamHolds extent None end (Some stream) = ⊥
StreamHolds extent (Some told) end None = ⊥
StreamHolds extent (Some told) end (Some stream) = IsEnded extent end × HoldsBy told end stream

-- the line with the number of files without an entry, if there are any
abbrev pub left_out_text : ℕ → List ℕ
left_out_text n = if n == 0 then [] else codes "left out " ++ decimal n ++ 10 ∷ []

-- the line of a stream: the number of files without an entry, or the refusal of its end
abbrev pub tar_text : TarEnd → List ℕ
tar_text (Whole n) = left_out_text n
tar_text Cut = []
tar_text (Refused why) = refused_line (fault_number why)

-- the exit status, given that of the run
abbrev pub tar_status : ℕ → TarEnd → ℕ
tar_status status (Whole n) = status
tar_status status Cut = status
tar_status status (Refused why) = 1
