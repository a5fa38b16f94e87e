-- What callers see of the blocks that are asked for.
use Rattle.std.specs.Prelude.{ℕ, List}
use Rattle.br_model.specs.Bootstrap.{Group}
use Rattle.br_check.specs.ChecksumWalk.{IsStep}
use Rattle.br_check.specs.Shown.{Shown}
use Rattle.br_check.specs.declared.checksum_walk.AskedBlocks.{AskedBlocks}
use Rattle.br_check.specs.declared.checksum_walk.ChecksumStep.{ChecksumStep}

-- the name of the volume
abbrev pub volume_of : AskedBlocks → List ℕ
volume_of a = a.vol.now

-- the groups that ask for them, each with its number in the bootstrap
abbrev pub groups_of : AskedBlocks → List (ℕ × Group)
groups_of a = a.groups.now

-- a step of the walk, over the volumes that a drive may be taken to show
abbrev pub StepOver : Shown → AskedBlocks → ℕ → List ℕ → List ℕ → ChecksumStep → Type 0
StepOver s asked address before after step = IsStep s.later.shows s.earlier.failures s.later.failures (volume_of asked) (groups_of asked) address before after step
