-- Places for blocks, one after another.
use Rattle.std.proofs.Common.{◌≡◌, Bool, true, false, ◌||◌, List, [], ◌∷◌, ◌++◌, length, arith, refl, sym, ap, ◌∙◌}
use Rattle.std.specs.List.{AllByRecursion}
use Rattle.std.proofs.lemmas.Bool.{ne_eqb}
use Rattle.br_model.specs.Session.{Place}
use Rattle.br_model.specs.Text.{is_empty}
use Rattle.br_session.specs.Outcome.{ArePlaces}
use Rattle.br_history.specs.Drafting.{TakesBlock}

-- a place after places that each take a block
pub places_push : (ps : List Place) (p : Place) → AllByRecursion TakesBlock ps → ArePlaces (ps ++ p ∷ [])
places_push [] p all = tt
places_push (q ∷ []) p all = (all.0, tt)
places_push (q ∷ r ∷ ps) p all = (all.0, places_push (r ∷ ps) p all.1)

-- a place after others is one
pub some_push : (ps : List Place) (p : Place) → ps ++ p ∷ [] ≡ [] → ⊥
some_push [] p e = absurd cc
some_push (q ∷ ps) p e = absurd cc

-- without a place there is no file, if all files have places
pub no_place_no_file : {A : Type 0} (files : List A) (closed : Bool) (none : Type 0) → (is_empty files || closed) ≡ true → (closed ≡ true → none → ⊥) → none → files ≡ []
no_place_no_file [] closed none has some e = refl
no_place_no_file (f ∷ files) true none has some e = absurd (some refl e)
no_place_no_file (f ∷ files) false none has some e =
    let apart : is_empty (f ∷ files) ≡ false = ne_eqb (length (f ∷ files)) 0 (λ same. omega (arith, same)) in
    let wrong : false ≡ true = sym (ap (λ b. b || false) apart) ∙ has in absurd cc

-- one more place that takes a block
pub takes_push : (ps : List Place) (p : Place) → AllByRecursion TakesBlock ps → TakesBlock p → AllByRecursion TakesBlock (ps ++ p ∷ [])
takes_push [] p all last = (last, tt)
takes_push (q ∷ ps) p all last = (all.0, takes_push ps p all.1 last)
