-- What a session knows of the stored jobs.
use Rattle.std.proofs.Common.{◌≡◌, List, [], ◌∷◌, ◌++◌, ap, subst, sym, inl, inr}
use mathlib.Core.List.{IsPrefix}
use Rattle.br_model.specs.Job.{JobRows}
use Rattle.br_keeper.specs.Publishing.{Publishing}
use Rattle.br_keeper.specs.Listing.{IsListing, KnowsStored, with_waiting}
use Rattle.br_keeper.specs.declared.stored_jobs.Waiting.{Waiting}
use Rattle.br_keeper.specs.declared.stored_jobs.Waiting.TheVariants.{Nothing, Stored, Taken}
use Rattle.br_keeper.proofs.BeginningLaws.{prefix_trans}

pub knows_stored : (p : Publishing) (waiting : Waiting) (list : List JobRows) → IsListing p waiting → IsPrefix list p.added → KnowsStored list (with_waiting p waiting)
knows_stored p Nothing list is begins = inl (is, subst (λ (l : List JobRows). IsPrefix list l) (sym is) begins)
knows_stored p (Stored rows) list is begins =
    let added : p.added ++ rows ∷ [] ≡ p.published ++ rows ∷ [] = ap (λ (l : List JobRows). l ++ rows ∷ []) (sym is) in
    inr (rows, added, prefix_trans list p.added (p.published ++ rows ∷ []) begins (rows ∷ [], added))
knows_stored p Taken list is begins = inr (is.2.0, is.2.1, subst (λ (l : List JobRows). IsPrefix list l) is.2.1 begins)
