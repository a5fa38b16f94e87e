-- Files that were made on disk and are not written yet.
use Rattle.std.specs.Prelude.{ℕ, ◌<◌, List, All}
use Rattle.br_sink_folder.specs.declared.window.Made.{Made}

-- each of them has a place below this one
abbrev pub AreBelow : {W : Type 0} → ℕ → List (Made W) → Type 0
AreBelow count made = All (λ (m : Made _). m.place < count) made
