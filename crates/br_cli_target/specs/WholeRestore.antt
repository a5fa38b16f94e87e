-- Whether a restore left nothing out.
use Rattle.std.specs.Prelude.{ℕ, Bool, ◌&&◌, List, [], map, Option, Some, None}
use Rattle.br_model.specs.File.{Item}
use Rattle.br_model.specs.Text.{is_empty}
use Rattle.br_engine.specs.declared.extracted.Extracted.{Extracted}
use Rattle.br_sink.specs.KeepGoing.{InLeaving}

-- nothing is reported as missing, and no file is left out, neither for its path nor since the sink
-- failed at it
abbrev pub is_whole : Extracted → List (List ℕ) → Bool
is_whole done failed = is_empty done.missing.items && is_empty done.left.items && is_empty failed

-- the paths of the files at which a sink failed and that are left out, if there is a sink
abbrev pub failed_paths : {S : Type 0} → Option (InLeaving S) → List (List ℕ)
failed_paths None = []
failed_paths (Some sink) = map (λ (i : Item). i.path) sink.left
