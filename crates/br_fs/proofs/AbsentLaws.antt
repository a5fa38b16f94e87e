-- What a disk over memory finds where no file is.
use Rattle.std.proofs.Common.{◌≡◌, ℕ, Option, Some, None, option_map, List, ap, sym, ◌∙◌}
use Rattle.std.specs.Prelude.{bytes_eq}
use Rattle.std.specs.List.{find}
use Rattle.br_fs.specs.Tree.{Tree, file_bytes, other_at}
use Rattle.br_fs.specs.Calls.{IsAbsent, IsAt}
use Rattle.br_fs.specs.Memory.{IsIn, IsNotFile, IsOtherIn, IsSeen, IsUnseenAt}
use Rattle.br_fs.specs.declared.kind.Metadata.{Metadata}
use Rattle.br_fs.specs.declared.kind.Kind.{Kind}
use Rattle.br_fs.specs.declared.kind.Kind.TheVariants.{File, Folder, Link, Other}

unseen : (kind : Option Kind) → IsUnseenAt kind → (kind ≡ Some Folder → ⊥) × (kind ≡ Some Other → ⊥)
unseen None u = ((λ e. absurd cc), (λ e. absurd cc))
unseen (Some File) u = ((λ e. absurd cc), (λ e. absurd cc))
unseen (Some Folder) u = absurd u
unseen (Some Link) u = ((λ e. absurd cc), (λ e. absurd cc))
unseen (Some Other) u = absurd u

pub unseen_is_absent : (tree : Tree) (path : List ℕ) → IsIn tree path None → IsAbsent (Some tree) path
unseen_is_absent tree path none = unseen (other_at tree path) none.1

pub none_seen : (others : List (List ℕ × Kind)) (path : List ℕ) → find (λ (e : List ℕ × Kind). bytes_eq e.0 path) others ≡ None
    → IsOtherIn others path None
none_seen others path none = rw none tt

pub other_seen : (others : List (List ℕ × Kind)) (path : List ℕ) (other : List ℕ × Kind) (result : Option Metadata)
    → find (λ (e : List ℕ × Kind). bytes_eq e.0 path) others ≡ Some other → IsSeen other.1 result → IsOtherIn others path result
other_seen others path other None found seen = rw found seen
other_seen others path other (Some f) found seen =
    (ap (λ (o : Option (List ℕ × Kind)). option_map (λ (e : List ℕ × Kind). e.1) o) found ∙ ap (λ (k : Kind). Some k) (sym seen.0), seen.1)

other_at_kind : (tree : Tree) (path : List ℕ) (kind : Kind) (n : ℕ) → file_bytes tree path ≡ None → other_at tree path ≡ Some kind
    → IsNotFile kind → IsAt tree path kind n
other_at_kind tree path File n none is other = absurd other
other_at_kind tree path Folder n none is other = (none, is)
other_at_kind tree path Link n none is other = (none, is)
other_at_kind tree path Other n none is other = (none, is)

pub other_is_in : (tree : Tree) (path : List ℕ) (result : Option Metadata) → file_bytes tree path ≡ None → IsOtherIn tree.others path result
    → IsIn tree path result
other_is_in tree path None none other = (none, other)
other_is_in tree path (Some f) none other = other_at_kind tree path f.kind f.len none other.0 other.1
