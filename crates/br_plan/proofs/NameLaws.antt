-- Names as a finite map by key are the planned files in order of their ranks.
use Rattle.std.proofs.Common.{◌≡◌, ℕ, List, [], ◌∷◌, map, refl, sym, ap, ◌∙◌}
use Rattle.std.specs.Borrow.{Bor}
use Rattle.std.specs.FinMap.{put, entries, from_entries}
use Rattle.std.specs.FinMap.Entries.{by_order}
use Rattle.std.specs.Ordering.{nat_cmp, ordering_then}
use Rattle.std.specs.declared.cmp.Ordering.{Ordering}
use Rattle.std.specs.declared.cmp.Ordering.TheVariants.{Less, Equal, Greater}
use Rattle.br_model.specs.Order.{put_all, ranked, in_order}
use Rattle.br_model.specs.Name.{FileKey, key_rank, key_cmp}
use Rattle.br_model.specs.Restored.{Planned, planned_in, Names}
use Rattle.br_model.specs.Plan.{planned_entry, plan_names}
use Rattle.br_model.proofs.OrderLaws.{rank_cmp, put_all-entries}
use Rattle.br_types.proofs.KeyLaws.{key_total, key_exact}
use Rattle.br_view.specs.declared.entry.Entry.{Entry}
use Rattle.br_view.specs.Shown.{shown_pair}
use Rattle.br_plan.specs.Selected.{named_pair}
use mathlib.Core.List.{map-map}

-- a name as a planned file
abbrev pub planned_of : FileKey × List ℕ → Planned
planned_of e = record { key = e.0; path = e.1 }

-- a name as a planned file with its rank
abbrev pub ranked_name : FileKey × List ℕ → List ℕ × Planned
ranked_name e = (key_rank e.0, planned_of e)

then_last : (o p q : Ordering) → ordering_then o (ordering_then p (ordering_then q Equal)) ≡ ordering_then (ordering_then o p) q
then_last Less p q = refl
then_last Greater p q = refl
then_last Equal Less q = refl
then_last Equal Greater q = refl
then_last Equal Equal Less = refl
then_last Equal Equal Equal = refl
then_last Equal Equal Greater = refl

-- keys are ordered as their ranks are
pub ranks_as_keys : (a b : FileKey) → rank_cmp (key_rank a) (key_rank b) ≡ key_cmp a b
ranks_as_keys a b = then_last (nat_cmp a.session.id b.session.id) (nat_cmp a.session.time b.session.time) (nat_cmp a.index b.index)

put_name : (k : FileKey) (v : List ℕ) (es : List (FileKey × List ℕ))
    → put rank_cmp (key_rank k) (planned_of (k, v)) (map ranked_name es) ≡ map ranked_name (put key_cmp k v es)
put_name k v [] = refl
put_name k v (e ∷ es) = ap (λ r. by_order r (ranked_name (k, v) ∷ ranked_name e ∷ map ranked_name es) ((key_rank e.0, planned_of (k, v)) ∷ map ranked_name es) (ranked_name e ∷ put rank_cmp (key_rank k) (planned_of (k, v)) (map ranked_name es))) (ranks_as_keys k e.0) ∙ go (key_cmp k e.0) refl (put_name k v es)
  where
    go : (r : Ordering) → key_cmp k e.0 ≡ r → put rank_cmp (key_rank k) (planned_of (k, v)) (map ranked_name es) ≡ map ranked_name (put key_cmp k v es)
        → by_order r (ranked_name (k, v) ∷ ranked_name e ∷ map ranked_name es) ((key_rank e.0, planned_of (k, v)) ∷ map ranked_name es) (ranked_name e ∷ put rank_cmp (key_rank k) (planned_of (k, v)) (map ranked_name es))
        ≡ map ranked_name (by_order r ((k, v) ∷ e ∷ es) ((e.0, v) ∷ es) (e ∷ put key_cmp k v es))
    go Less is h = refl
    go Equal is h = ap (λ (a : FileKey). (key_rank e.0, planned_of (a, v)) ∷ map ranked_name es) (key_exact k e.0 is)
    go Greater is h = ap (λ (ds : List (List ℕ × Planned)). ranked_name e ∷ ds) h

put_names : (es : List (FileKey × List ℕ)) → put_all rank_cmp (map ranked_name es) ≡ map ranked_name (put_all key_cmp es)
unfolding put_all
put_names [] = refl
put_names (e ∷ es) = ap (put rank_cmp (key_rank e.0) (planned_of e)) (put_names es) ∙ put_name e.0 e.1 (put_all key_cmp es)

-- the names of the entries are the planned files of the selection
pub named_is_planned : (shown : List (Bor (List ℕ) × Entry)) (names : Names) → names ≡ from_entries (map named_pair shown) → planned_in names ≡ plan_names (map shown_pair shown)
unfolding planned_in plan_names in_order ranked
named_is_planned shown names is =
    let es : List (FileKey × List ℕ) = map named_pair shown in
    let second : List ℕ × Planned → Planned = λ e. e.1 in
    ap (λ (m : Names). map planned_of (entries m)) is
    ∙ ap (map planned_of) (sym (put_all-entries key_total es))
    ∙ sym (map-map second ranked_name (put_all key_cmp es))
    ∙ ap (map second) (sym (put_names es) ∙ ap (put_all rank_cmp) (beside shown))
  where
    beside : (ps : List (Bor (List ℕ) × Entry)) → map ranked_name (map named_pair ps) ≡ map (λ (p : Planned). (key_rank p.key, p)) (map planned_entry (map shown_pair ps))
    beside [] = refl
    beside (p ∷ ps) = ap (λ (rs : List (List ℕ × Planned)). ranked_name (named_pair p) ∷ rs) (beside ps)
