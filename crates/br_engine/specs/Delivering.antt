-- A whole restore: the manifest of the files is written; then the files are put into a sink, if
-- there is one.
use Rattle.std.specs.Prelude.{◌≡◌, ℕ, List, take, filter_map, Option, Some, None, Result, Ok, Err, ⊤}
use Rattle.std.specs.Io.KnownBytes.{Appends}
use Rattle.br_model.specs.Answer.{IsRefusal}
use Rattle.br_model.specs.File.{Item}
use Rattle.br_model.specs.Restored.{Restored}
use Rattle.br_model.specs.Manifest.{manifest, totals_of}
use Rattle.br_model.specs.Delivery.{Stop, delivery, item_of}
use Rattle.br_sink.specs.Delivery.{stop_cause}
use Rattle.br_sink.specs.Sink.{HasMore}
use Rattle.br_engine.specs.Fault.{cause}
use Rattle.br_engine.specs.Outputs.{EndTells, InSink}
use Rattle.br_engine.specs.Extracting.{Said, WritesNothing}
use Rattle.br_engine.specs.Stopping.{IsRestoreStop}
use Rattle.br_engine.specs.declared.restore_end.RestoreEnd.{RestoreEnd}
use Rattle.br_engine.specs.declared.restore_end.RestoreEnd.TheVariants.{AllFiles, SomeFaults, Stopped}
use Rattle.br_engine.specs.declared.fault.ExtractFault.{ExtractFault}

-- the files of a restore without its faults
abbrev pub items_of : List Restored → List Item
items_of rs = filter_map item_of rs

-- the expected files; their manifest is at the end of what the writer held
abbrev pub IsWritten : (Said → Type 0) → Option (List ℕ) → Option (List ℕ) → List Restored → Type 0
IsWritten over before after rs = over (λ expected. expected ≡ Ok rs) × Appends before after (manifest rs)

-- if there is a sink, all of the files were added to those that it had: no paths of them conflict
abbrev pub IsDelivered : InSink → InSink → List Restored → Type 0
IsDelivered None None rs = ⊤
IsDelivered (Some had) (Some has) rs = (delivery rs ≡ Ok (totals_of rs)) × HasMore (items_of rs) had has
IsDelivered None (Some has) rs = ⊥
IsDelivered (Some had) None rs = ⊥

-- There is a sink, and the files before the stop were added to those that it had. A stop for a
-- conflicting path is at the first such file, and the paths of the files before a stop do not
-- conflict.
abbrev pub IsStopped : InSink → InSink → Stop → List Restored → Type 0
IsStopped (Some had) (Some has) stop rs =
    IsRefusal (stop_cause stop) (delivery rs) × IsRestoreStop (items_of rs) stop × HasMore (take stop.done (items_of rs)) had has
IsStopped None has stop rs = ⊥
IsStopped (Some had) None stop rs = ⊥

-- the sink has all of the files, or those before the stop
abbrev pub IsPut : InSink → InSink → RestoreEnd → List Restored → Type 0
IsPut had has AllFiles rs = IsDelivered had has rs
IsPut had has SomeFaults rs = IsDelivered had has rs
IsPut had has (Stopped stop) rs = IsStopped had has stop rs

-- the result of a restore of these files, and what it leaves in the sink
abbrev pub EndsWith : InSink → InSink → List Restored → RestoreEnd → Type 0
EndsWith had has rs end = EndTells end rs × IsPut had has end rs

-- the refusal is the expected one; nothing was put, and nothing was written unless reading or
-- writing failed
abbrev pub IsRefused : (Said → Type 0) → Option (List ℕ) → Option (List ℕ) → InSink → InSink → ExtractFault → Type 0
IsRefused over before after had has fault = over (λ expected. IsRefusal (cause fault) expected) × WritesNothing before after fault × (has ≡ had)

-- the manifest of the expected files and the result of their delivery; or the reason why there is
-- no manifest
abbrev pub Delivers : (Said → Type 0) → Option (List ℕ) → Option (List ℕ) → InSink → InSink → Result RestoreEnd ExtractFault → Type 0
Delivers over before after had has (Ok end) = (rs : List Restored) × IsWritten over before after rs × EndsWith had has rs end
Delivers over before after had has (Err fault) = IsRefused over before after had has fault
