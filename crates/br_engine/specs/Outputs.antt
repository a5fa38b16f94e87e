-- The outputs of a restore, and its result.
use Rattle.std.specs.Prelude.{◌≡◌, ℕ, ◌<◌, ◌≤◌, Bool, true, false, List, [], is_ok, Option, Some, None, ⊤, if◌then◌else◌}
use Rattle.std.specs.List.{AllZip, list_all}
use Rattle.br_model.specs.Text.{refused_line}
use Rattle.br_model.specs.File.{Item}
use Rattle.br_model.specs.Restored.{Restored}
use Rattle.br_engine.specs.declared.restore_end.RestoreEnd.{RestoreEnd}
use Rattle.br_engine.specs.declared.restore_end.RestoreEnd.TheVariants.{AllFiles, SomeFaults, Stopped}

-- the line of a delivery that stopped
abbrev pub end_text : RestoreEnd → List ℕ
end_text AllFiles = []
end_text SomeFaults = []
end_text (Stopped stop) = refused_line stop.number

-- each outcome is a file
abbrev pub are_files : List Restored → Bool
are_files rs = list_all (λ (r : Restored). is_ok r.outcome) rs

-- the result of a restore of these files, unless its delivery stops
abbrev pub end_of_files : List Restored → RestoreEnd
end_of_files rs = if are_files rs then AllFiles else SomeFaults

-- the result tells whether each outcome is a file, unless the delivery stopped
abbrev pub EndTells : RestoreEnd → List Restored → Type 0
EndTells AllFiles rs = are_files rs ≡ true
EndTells SomeFaults rs = are_files rs ≡ false
EndTells (Stopped stop) rs = ⊤

-- the files that the sink has, if there is a sink and it reports them
abbrev pub InSink : Type 0
InSink = Option (Option (List Item))

-- the sink has failed as often as before, or more often
abbrev pub SinkCounts : Option ℕ → Option ℕ → Type 0
SinkCounts None None = ⊤
SinkCounts (Some earlier) (Some later) = earlier ≤ later
SinkCounts None (Some later) = ⊥
SinkCounts (Some earlier) None = ⊥

-- the sink has failed once more
abbrev pub SinkFailed : Option ℕ → Option ℕ → Type 0
SinkFailed (Some earlier) (Some later) = earlier < later
SinkFailed None later = ⊥
SinkFailed (Some earlier) None = ⊥

-- if the delivery stopped by 80, the sink has failed once more
abbrev pub StopsByFailure : Option ℕ → Option ℕ → RestoreEnd → Type 0
StopsByFailure earlier later AllFiles = ⊤
StopsByFailure earlier later SomeFaults = ⊤
StopsByFailure earlier later (Stopped stop) = stop.number ≡ 80 → SinkFailed earlier later

-- the delivery stopped by this number only if this holds
abbrev pub StopsOnlyIf : ℕ → Type 0 → RestoreEnd → Type 0
StopsOnlyIf number claim AllFiles = ⊤
StopsOnlyIf number claim SomeFaults = ⊤
StopsOnlyIf number claim (Stopped stop) = stop.number ≡ number → claim

-- each of the drives failed meanwhile
abbrev pub AllFail : {D : Type 0} → (D → ℕ) → List D → List D → Type 0
AllFail failures before after = AllZip (λ old new. failures old < failures new) before after
