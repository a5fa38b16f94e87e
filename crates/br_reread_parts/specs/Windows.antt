-- Data in memory, one after another.
use Rattle.std.specs.Prelude.{◌≡◌, ℕ, List, ◌++◌, flat_map, nat_abs}
use Rattle.br_model.specs.Block.{Fragment}
use Rattle.br_data.specs.KeptData.{Kept}
use Rattle.br_join.specs.Plain.{plain_of}

-- the bytes of the data
abbrev pub data_bytes : List Kept → List ℕ
data_bytes found = flat_map (λ (d : Kept). d.bytes) found

-- the plain data of the fragment, if it has some, were appended
abbrev pub AppendsPlain : List Kept → List Kept → Fragment → Type 0
AppendsPlain before after f = data_bytes after ≡ data_bytes before ++ plain_of (nat_abs f.stream) f.bytes
