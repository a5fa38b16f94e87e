-- NewestCopies of paths that pass a test, and that are noted.
use Rattle.std.proofs.Common.{◌≡◌, Bool, true, List, [], ◌∷◌, ◌++◌, filter, flat_map, ap, refl, subst, ◌∙◌}
use Rattle.std.proofs.lemmas.List.Elements.{filter-append}
use Rattle.br_types.specs.Newest.{AreNoted, Copy, is_outdated}
use Rattle.br_types.specs.declared.newest.NewestCopies.{NewestCopies}
use Rattle.br_check.specs.Copies.{NotesFirst}

-- what passes of joined lists is what passes of each, joined
pub filter_flat : {X Y : Type 0} (p : Y → Bool) (f : X → List Y) (xs : List X) → filter p (flat_map f xs) ≡ flat_map (λ x. filter p (f x)) xs
filter_flat p f [] = refl
filter_flat p f (x ∷ xs) = filter-append p (f x) (flat_map f xs) ∙ ap (λ ys. filter p (f x) ++ ys) (filter_flat p f xs)

-- a copy is noted before others
abbrev Notes : NewestCopies → NewestCopies → Copy → Type 0
Notes before after c = (copies : List Copy) → AreNoted before copies → AreNoted after (c ∷ copies)

pub noted_one : (before after : NewestCopies) (c d : Copy) → c ≡ d → Notes before after c → NotesFirst before after (d ∷ [])
noted_one before after c d same notes copies noted = subst (λ (x : Copy). AreNoted after (x ∷ copies)) same (notes copies noted)

pub noted_old : (before after : NewestCopies) (all : List Copy) (c d : Copy) → c ≡ d → is_outdated all c ≡ true → Notes before after c
    → NotesFirst before after (filter (is_outdated all) (d ∷ []))
noted_old before after all c d same old notes copies noted =
    let e : is_outdated all d ≡ true = subst (λ (x : Copy). is_outdated all x ≡ true) same old in
    rw e (noted_one before after c d same notes copies noted)
