-- Two files that are made, written and finished side by side.
use Rattle.std.specs.Prelude.{◌≡◌, ℕ, List, [], ◌∷◌, ◌++◌, Option, Some, None, ⊤, string_bytes, true}
use Rattle.br_model.specs.File.{Item, has_bytes}
use Rattle.br_fs.specs.Making.{Nodes, Bytes, IsBelow, IsFinished, IsFree, MakesFile, node_at}
use Rattle.br_sink.specs.FileParts.{with_bytes}
use Rattle.br_sink.specs.declared.two_parts.TwoPut.{TwoPut}
use Rattle.br_sink.specs.declared.two_parts.TwoPut.TheVariants.{Both, One, Neither}
use Rattle.br_sink_folder.specs.Below.{AddsFolders}
use Rattle.br_sink_folder.specs.Held.{LeavesFiles}
use Rattle.br_sink_folder.specs.Removed.{ChangesOne, IsRemoved}
use Rattle.br_sink_folder.specs.declared.two_files.NewFile.{NewFile}
use Rattle.br_sink_folder.specs.declared.two_files.Pair.{Pair}
use Rattle.br_sink_folder.specs.declared.two_files.Paths.{Paths}

-- the path of a new file is that of an item below the folder
pub record IsNewBelow {W : Type 0} (root path : List ℕ) (new : NewFile W) : Type 0 where
  pub whole : string_bytes new.path ≡ root ++ path
  pub below : IsBelow root (string_bytes new.path)

-- both paths are below the folder
pub record HavePathsBelow (paths : Paths) : Type 0 where
  pub one : IsBelow paths.root.now paths.one.now
  pub other : IsBelow paths.root.now paths.other.now

-- folders were made on the way of a file, and then the file, as a new one
abbrev pub MakesFree : List ℕ → List ℕ → Option (List ℕ) → Option Nodes → Option Nodes → Type 0
MakesFree root path contents earlier later =
    (middle : Option Nodes) × AddsFolders root earlier middle × IsFree middle path × MakesFile path contents middle later

-- one file was made so, and then another
abbrev pub MakesTwo : List ℕ → List ℕ → List ℕ → Option (List ℕ) → Option (List ℕ) → Option Nodes → Option Nodes → Type 0
MakesTwo root one other first second earlier later =
    (middle : Option Nodes) × MakesFree root one first earlier middle × MakesFree root other second middle later

-- one file is finished at its path, and then another
abbrev pub FinishesTwo : List ℕ → List ℕ → Option (List ℕ) → Option (List ℕ) → Option Nodes → Option Nodes → Type 0
FinishesTwo one other first second earlier later =
    (middle : Option Nodes) × IsFinished one first earlier middle × IsFinished other second middle later

-- one file is finished at its path; then nothing is changed except for folders and the path of
-- another
abbrev pub FinishesFirst : List ℕ → List ℕ → List ℕ → Option (List ℕ) → Option Nodes → Option Nodes → Type 0
FinishesFirst root one other first earlier later =
    (middle : Option Nodes) × IsFinished one first earlier middle × ChangesOne root other middle later

-- what was closed of two files, if both were put, or only the first one
abbrev pub ClosesTwo : List ℕ → List ℕ → List ℕ → Option (List ℕ) → Option (List ℕ) → Option Nodes → Option Nodes → TwoPut → Type 0
ClosesTwo root one other first second earlier later (Both x y) = FinishesTwo one other first second earlier later
ClosesTwo root one other first second earlier later (One x why) = FinishesFirst root one other first earlier later
ClosesTwo root one other first second earlier later (Neither why) = ⊤

-- what was closed of the files at these paths
abbrev pub ClosesPaths : Paths → Option (List ℕ) → Option (List ℕ) → Option Nodes → Option Nodes → TwoPut → Type 0
ClosesPaths paths first second earlier later result =
    ClosesTwo paths.root.now paths.one.now paths.other.now first second earlier later result

-- If the nodes are known, the path has a file of these bytes.
abbrev pub IsWholeAt : List ℕ → List ℕ → Option Nodes → Type 0
IsWholeAt path bytes None = ⊤
IsWholeAt path bytes (Some nodes) = node_at nodes path ≡ Some (Bytes bytes)

-- What is left below the folder: both files, if both were put, else the first one, if it was put.
abbrev pub LeavesTwo : List ℕ → Item → Item → Option Nodes → Option Nodes → TwoPut → Type 0
LeavesTwo root one other earlier later (Both x y) = LeavesFiles root (with_bytes one x ∷ with_bytes other y ∷ []) earlier later
LeavesTwo root one other earlier later (One x why) = IsWholeAt (root ++ one.path) x later
LeavesTwo root one other earlier later (Neither why) = ⊤

-- what is left of two new files of this pair if both have bytes, whatever was there before they
-- were made
abbrev pub LeavesNew : {W : Type 0} → (W → Option (List ℕ)) → Pair → NewFile W → NewFile W → Option Nodes → Option Nodes → TwoPut → Type 0
LeavesNew contents pair first second made later result =
    has_bytes pair.one.now.kind ≡ true → has_bytes pair.other.now.kind ≡ true → (earlier : Option Nodes)
    → MakesTwo pair.root.now (string_bytes first.path) (string_bytes second.path) (contents first.file) (contents second.file) earlier made
    → LeavesTwo pair.root.now pair.one.now pair.other.now earlier later result

-- no file is at either path, or its removal was refused
abbrev pub AreBothRemoved : (List ℕ → Type 0) → List ℕ → List ℕ → Option Nodes → Type 0
AreBothRemoved refused one other nodes = IsRemoved refused nodes one × IsRemoved refused nodes other

-- the same holds for the files of two that were not put
abbrev pub IsRestRemoved : (List ℕ → Type 0) → List ℕ → List ℕ → Option Nodes → TwoPut → Type 0
IsRestRemoved refused one other nodes (Both x y) = ⊤
IsRestRemoved refused one other nodes (One x why) = IsRemoved refused nodes other
IsRestRemoved refused one other nodes (Neither why) = AreBothRemoved refused one other nodes

-- the same holds for the files of this pair that were not put
abbrev pub IsPairRemoved : (List ℕ → Type 0) → Pair → Option Nodes → TwoPut → Type 0
IsPairRemoved refused pair nodes result =
    IsRestRemoved refused (pair.root.now ++ pair.one.now.path) (pair.root.now ++ pair.other.now.path) nodes result

-- the bytes of the first of two files, if it was put
abbrev pub first_of : TwoPut → Option (List ℕ)
first_of (Both x y) = Some x
first_of (One x why) = Some x
first_of (Neither why) = None

-- what is put after two files were closed, with the bytes that were written: both, or fewer
abbrev pub PutsAtMost : TwoPut → TwoPut → Type 0
PutsAtMost written (Both x y) = written ≡ Both x y
PutsAtMost written (One x why) = first_of written ≡ Some x
PutsAtMost written (Neither why) = ⊤
