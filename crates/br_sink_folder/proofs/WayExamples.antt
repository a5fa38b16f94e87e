-- Folders that are put, and what a stop leaves, by example.
use Rattle.std.proofs.Common.{◌≡◌, Option, refl, arith}
use Rattle.std.specs.Prelude.{codes}
use Rattle.br_fs.specs.Making.{Nodes, IsKindAt}
use Rattle.br_fs.specs.declared.kind.Kind.TheVariants.{Folder}
use Rattle.br_sink_folder.specs.Way.{HasWay, folder_path}

-- slashes around a path

slash_at_both_ends : folder_path (codes "x") ≡ codes "/x/"
slash_at_both_ends = refl

slash_after_a_slash : folder_path (codes "/x/y/") ≡ codes "/x/y//"
slash_after_a_slash = refl

-- the folder itself, and the one on its way

folder_is_there : (nodes : Option Nodes) → HasWay (codes "/into") (codes "/into/x/y//") nodes → IsKindAt nodes (codes "/into/x/y") Folder
folder_is_there nodes way = way (codes "/x/y") (codes "/", refl) (omega arith) refl

way_is_there : (nodes : Option Nodes) → HasWay (codes "/into") (codes "/into/x/y//") nodes → IsKindAt nodes (codes "/into/x") Folder
way_is_there nodes way = way (codes "/x") (codes "y//", refl) (omega arith) refl
