-- The lines that a script writes.
use Rattle.std.specs.Prelude.{ℕ, ◌==◌, ◌⊎◌, if◌then◌else◌, List, Vec, ◌++◌, codes, decimal, Option, Result, Ok, Err, OnOk}
use Rattle.std.specs.Global.{Global}
use Rattle.std.specs.Io.KnownBytes.{Appends}
use Rattle.br_model.specs.Text.{line, refused_line}
use Rattle.br_keeper.specs.Fault.{fault_number}
use Rattle.br_keeper.specs.declared.fault.KeeperFault.{KeeperFault}

-- the line of a job that is stored
abbrev pub stored_line : ℕ → List ℕ
stored_line id = line (codes "stored " ++ decimal id)

-- the line of a refusal; 90 comes with the number of the refused line
abbrev pub refusal_at : ℕ → ℕ → List ℕ
refusal_at number place = if number == 90 then line (codes "refused 90 line " ++ decimal place) else refused_line number

-- what is written about a job that was to be committed
abbrev pub commit_line : Result ℕ KeeperFault → List ℕ
commit_line (Ok id) = stored_line id
commit_line (Err why) = refused_line (fault_number why)

-- the text was written, or a line that memory ran out for it
abbrev pub Tells : Option (List ℕ) → Option (List ℕ) → List ℕ → Type 0
Tells before after text = Appends before after text ⊎ Appends before after (refused_line 1)

-- the text that was made was written, or a line that memory ran out for it
abbrev pub TellsMade : {E F : Type 0} → Option (List ℕ) → Option (List ℕ) → Result (Unit {0}) E → Result (Vec ℕ Global) F → Type 0
TellsMade before after result (Ok text) = OnOk result (Appends before after text.items)
TellsMade before after result (Err why) = OnOk result (Appends before after (refused_line 1))
