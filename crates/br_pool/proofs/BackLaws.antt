-- Workers that are taken apart, the last one first.
use Rattle.std.proofs.Common.{◌≡◌, ℕ, List, [], ◌∷◌, ◌++◌, map, reverse, flat_map, Option, ap, sym, ◌∙◌, append_assoc}
use mathlib.Core.List.{reverse-append}
use Rattle.br_pool.specs.Workers.{Answer}
use Rattle.br_pool.specs.Slots.{with_each}
use Rattle.br_pool.proofs.ListLaws.{turned_more}
use Rattle.br_pool.proofs.SlotLaws.{with_each_append}

pub back_more : {A B : Type 0} (f : A → B) (front after all : List B) (new old : List A) (w : A) → old ≡ new ++ w ∷ [] → after ≡ front ++ f w ∷ []
    → front ++ reverse (map f old) ≡ all → after ++ reverse (map f new) ≡ all
back_more f front after all new old w e p h =
    ap (λ l. l ++ reverse (map f new)) p ∙ append_assoc front (f w ∷ []) (reverse (map f new)) ∙ ap (λ l. front ++ l) (sym (turned_more f new w) ∙ ap (λ l. reverse (map f l)) (sym e)) ∙ h

pub slots_more : {W : Type 0} (answers : W → List (ℕ × Answer)) (slots after all : List (Option Answer)) (new old : List W) (w : W) → old ≡ new ++ w ∷ [] → after ≡ with_each slots (answers w)
    → with_each slots (flat_map answers (reverse old)) ≡ all → with_each after (flat_map answers (reverse new)) ≡ all
slots_more answers slots after all new old w e p h =
    ap (λ s. with_each s (flat_map answers (reverse new))) p ∙ sym (with_each_append slots (answers w) (flat_map answers (reverse new)))
    ∙ ap (λ l. with_each slots (flat_map answers l)) (sym (reverse-append new (w ∷ [])) ∙ ap reverse (sym e)) ∙ h

pub batches_more : {W B : Type 0} (pushed : W → List B) (front after all : List B) (new old : List W) (w : W) → old ≡ new ++ w ∷ [] → after ≡ front ++ pushed w
    → front ++ flat_map pushed (reverse old) ≡ all → after ++ flat_map pushed (reverse new) ≡ all
batches_more pushed front after all new old w e p h =
    ap (λ l. l ++ flat_map pushed (reverse new)) p ∙ append_assoc front (pushed w) (flat_map pushed (reverse new))
    ∙ ap (λ l. front ++ flat_map pushed l) (sym (reverse-append new (w ∷ [])) ∙ ap reverse (sym e)) ∙ h
