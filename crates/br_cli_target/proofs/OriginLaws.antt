-- Where files come from, as the groups are searched that ask for them.
use Rattle.std.proofs.Common.{◌≡◌, ℕ, not, eqb, cond, List, [], ◌∷◌, map, flat_map, ap, ◌∙◌}
use Rattle.std.specs.Prelude.{IfOk, IsPermutation, Result, Ok, Err}
use Rattle.std.specs.List.Sorted.{IsStrictlySortedBy}
use Rattle.br_piece.proofs.CountLaws.{got_permuted}
use Rattle.br_model.specs.Bootstrap.{Group}
use Rattle.br_model.specs.Meaning.{Hit}
use Rattle.br_model.specs.Name.{FileKey}
use Rattle.br_cli_target.specs.NarrowedGroups.{narrow}
use Rattle.br_cli_target.specs.Origins.{AreOrigins, ComeFrom, origin_of, searched_for}
use Rattle.br_cli_target.specs.declared.origin.Origin.{Origin}
use Rattle.br_records.specs.Runs.{AreListed}

-- no hits are in order
pub none_listed : AreListed []
unfolding IsStrictlySortedBy
none_listed = tt

-- a group that asks for this number of files is searched
abbrev narrow_by : ℕ → Group → List Group
narrow_by n g = cond (not (eqb n 0)) (narrow g ∷ []) []

-- the order of the files matters not
searched_alike : (groups : List Group) (keys sorted : List FileKey) → IsPermutation keys sorted → searched_for sorted groups ≡ searched_for keys groups
searched_alike groups keys sorted moved = λ t. flat_map (λ g. narrow_by (got_permuted g keys sorted moved t) g) groups

-- the groups that were searched are those that ask for the files
pub searched_are : (groups given narrow : List Group) (keys sorted borrowed : List FileKey) → given ≡ groups → borrowed ≡ sorted → IsPermutation keys sorted
    → narrow ≡ searched_for borrowed given → narrow ≡ searched_for keys groups
searched_are groups given narrow keys sorted borrowed same lent moved is =
    is ∙ ap (λ (gs : List Group). searched_for borrowed gs) same ∙ ap (λ (ks : List FileKey). searched_for ks groups) lent ∙ searched_alike groups keys sorted moved

-- where files come from by the hits of the groups that ask for them
pub come_from : {V E : Type 0} (items : V → List Origin) (groups given searched : List Group) (keys : List FileKey) (hits : List Hit) (r : Result V E)
    → given ≡ groups → searched ≡ searched_for keys groups → IfOk r (λ v. AreOrigins given searched keys hits (items v)) → IfOk r (λ v. ComeFrom groups keys (items v))
come_from items groups given searched keys hits (Ok v) same are h =
    (hits, h ∙ ap (λ (gs : List Group). map (origin_of gs searched hits) keys) same ∙ ap (λ (gs : List Group). map (origin_of groups gs hits) keys) are)
come_from items groups given searched keys hits (Err e) same are h = tt

-- without hits it matters not which groups were searched
pub come_from_none : {V E : Type 0} (items : V → List Origin) (groups given : List Group) (keys : List FileKey) (r : Result V E)
    → given ≡ groups → IfOk r (λ v. AreOrigins given [] keys [] (items v)) → IfOk r (λ v. ComeFrom groups keys (items v))
come_from_none items groups given keys (Ok v) same h = ([], h ∙ ap (λ (gs : List Group). map (origin_of gs [] []) keys) same)
come_from_none items groups given keys (Err e) same h = tt
