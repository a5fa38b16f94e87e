-- Fragments that have all their data.
use Rattle.std.specs.Prelude.{Bool, ◌==◌, List, length}
use Rattle.std.specs.List.{list_all}
use Rattle.br_model.specs.Block.{Fragment}

-- whether each fragment has all the data that its header names
unfoldable pub are_whole : List Fragment → Bool
are_whole fragments = list_all (λ (f : Fragment). length f.bytes == f.size) fragments
