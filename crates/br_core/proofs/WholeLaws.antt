-- A restore with everything read and taken, and its joiner.
use Rattle.std.proofs.Common.{◌≡◌, ℕ, zero, suc, Bool, true, false, cond, List, [], ◌∷◌, length, map, option_map, Option, Some, None, refl, sym, ap, ◌∙◌, arith}
use Rattle.std.proofs.lemmas.Bool.{ne_eqb}
use Rattle.std.proofs.lemmas.Option.{same_Some}
use Rattle.std.specs.Prelude.{◌&&◌, slice_get}
use Rattle.std.specs.List.{AllByRecursion, list_all}
use Rattle.std.specs.Ordering.{nat_cmp, eq_by_cmp}
use Rattle.std.specs.declared.cmp.Ordering.{Ordering}
use Rattle.std.specs.declared.cmp.Ordering.TheVariants.{Less, Equal, Greater}
use Rattle.std.specs.Cmp.{nat_cmp_total}
use Rattle.std.specs.FinMap.{FinMap, find, put, get, entries, from_entries, entries-insert, get-entries, get-from_entries, same_map, nat_cmp-IsAntisymmetric}
use Rattle.std.specs.FinMap.Entries.{by_order}
use Rattle.br_model.specs.Order.{put_all}
use Rattle.br_model.specs.Text.{is_empty}
use Rattle.br_model.proofs.OrderLaws.{put_all-entries}
use Rattle.br_match.specs.declared.hit.Batch.{Batch}
use Rattle.br_join.specs.Joining.{is_ready}
use Rattle.br_core.specs.Machine as machine
use Rattle.br_core.specs.Machine.{IsWhole}
use Rattle.br_core.specs.Machine.Status.{Waiting, Claimed, Finished}
use Rattle.br_core.specs.Statuses.{is_finished, status_of}
use Rattle.br_core.specs.View.{TellsWhole, hits_of_batches}
use Rattle.br_core.specs.declared.open_restore.OpenRestore.{OpenRestore}
use Rattle.br_core.specs.declared.piece_status.Status as code
use Rattle.br_core.specs.declared.piece_status.Status.TheVariants as at

-- ---- statuses

-- all pieces are finished as the relation says it
finished_all : (statuses : List code.Status) → list_all is_finished statuses ≡ true → AllByRecursion (λ (s : machine.Status). s ≡ Finished) (map status_of statuses)
finished_all [] h = tt
finished_all (at.Waiting ∷ ss) h = absurd cc
finished_all (at.Claimed address ∷ ss) h = absurd cc
finished_all (at.Finished ∷ ss) h = (refl, finished_all ss h)

all_finished : (statuses : List code.Status) → AllByRecursion (λ (s : machine.Status). s ≡ Finished) (map status_of statuses) → list_all is_finished statuses ≡ true
all_finished [] h = refl
all_finished (at.Waiting ∷ ss) h = let e : Waiting ≡ Finished = h.0 in absurd cc
all_finished (at.Claimed address ∷ ss) h = let e : Claimed address ≡ Finished = h.0 in absurd cc
all_finished (at.Finished ∷ ss) h = all_finished ss h.1

-- then each is
finished_at : (statuses : List code.Status) (n : ℕ) (b : Bool) → list_all is_finished statuses ≡ true → option_map is_finished (slice_get statuses n) ≡ Some b → b ≡ true
finished_at [] n b h e = absurd cc
finished_at (at.Waiting ∷ ss) n b h e = absurd cc
finished_at (at.Claimed address ∷ ss) n b h e = absurd cc
finished_at (at.Finished ∷ ss) zero b h e = sym (same_Some true b e)
finished_at (at.Finished ∷ ss) (suc n) b h e = finished_at ss n b h e

-- ---- maps whose values are all true

put_true : (k : ℕ) (es : List (ℕ × Bool)) → list_all (λ (e : ℕ × Bool). e.1) es ≡ true → list_all (λ (e : ℕ × Bool). e.1) (put nat_cmp k true es) ≡ true
put_true k [] h = refl
put_true k ((n, false) ∷ es) h = absurd cc
put_true k ((n, true) ∷ es) h = go (nat_cmp k n) (put_true k es h)
  where
    go : (o : Ordering) → list_all (λ (e : ℕ × Bool). e.1) (put nat_cmp k true es) ≡ true
        → list_all (λ (e : ℕ × Bool). e.1) (by_order o ((k, true) ∷ (n, true) ∷ es) ((n, true) ∷ es) ((n, true) ∷ put nat_cmp k true es)) ≡ true
    go Less r = h
    go Equal r = h
    go Greater r = r

-- the same keys, each with true
abbrev as_true : List (ℕ × Bool) → List (ℕ × Bool)
as_true [] = []
as_true (e ∷ es) = (e.0, true) ∷ as_true es

all_true : (es : List (ℕ × Bool)) → list_all (λ (e : ℕ × Bool). e.1) (entries (from_entries {R = nat_cmp} (as_true es))) ≡ true
unfolding put_all
all_true [] = ap (list_all (λ (e : ℕ × Bool). e.1)) (sym (put_all-entries nat_cmp_total []))
all_true (e ∷ es) =
    ap (list_all (λ (x : ℕ × Bool). x.1)) (entries-insert nat_cmp_total (from_entries {R = nat_cmp} (as_true es)) e.0 true)
    ∙ put_true e.0 (entries (from_entries {R = nat_cmp} (as_true es))) (all_true es)

found_true : (es : List (ℕ × Bool)) (k : ℕ) → find nat_cmp k (as_true es) ≡ option_map (λ (b : Bool). true) (find nat_cmp k es)
found_true [] k = refl
found_true (e ∷ es) k = ap (cond (eq_by_cmp nat_cmp k e.0) (Some true)) (found_true es k) ∙ go (eq_by_cmp nat_cmp k e.0)
  where
    go : (b : Bool) → cond b (Some true) (option_map (λ (x : Bool). true) (find nat_cmp k es)) ≡ option_map (λ (x : Bool). true) (cond b (Some e.1) (find nat_cmp k es))
    go true = refl
    go false = refl

-- if each look-up finds true, all values are
looked_up_true : (m : FinMap nat_cmp Bool) → ((k : ℕ) (b : Bool) → get m k ≡ Some b → b ≡ true) → list_all (λ (e : ℕ × Bool). e.1) (entries m) ≡ true
looked_up_true m each =
    ap (λ (n : FinMap nat_cmp Bool). list_all (λ (e : ℕ × Bool). e.1) (entries n))
    (same_map nat_cmp_total nat_cmp-IsAntisymmetric m (from_entries {R = nat_cmp} (as_true (entries m))) same)
    ∙ all_true (entries m)
  where
    is_true : (k : ℕ) (o : Option Bool) → get m k ≡ o → o ≡ option_map (λ (b : Bool). true) o
    is_true k None e = refl
    is_true k (Some b) e = ap Some (each k b e)

    same : (k : ℕ) → get m k ≡ get (from_entries {R = nat_cmp} (as_true (entries m))) k
    same k =
        is_true k (get m k) refl ∙ ap (option_map (λ (b : Bool). true)) (get-entries m k) ∙ sym (found_true (entries m) k)
        ∙ sym (get-from_entries nat_cmp_total (as_true (entries m)) k)

-- ---- the restore

-- the joiner of a restore whose pieces are all finished is ready
pub joiner_is_ready : (r : OpenRestore) → TellsWhole r true → is_ready r.joiner ≡ true
joiner_is_ready r whole =
    let all = all_finished r.statuses.items (whole [] []).finished in
    looked_up_true r.joiner.pieces (λ k b e. finished_at r.statuses.items k b all (sym (r.parts.closed k) ∙ e))

-- what the tests of a restore give
pub tells_whole : (r : OpenRestore) (none all : Bool) → none ≡ is_empty r.transit.items → all ≡ list_all is_finished r.statuses.items → TellsWhole r (none && all)
tells_whole r none all left each = go none all left each
  where
    no_batch : (batches : List (ℕ × Batch)) → true ≡ is_empty batches → hits_of_batches batches ≡ []
    no_batch [] e = refl
    no_batch (b ∷ bs) e = let some : is_empty (b ∷ bs) ≡ false = ne_eqb (length (b ∷ bs)) 0 (λ x. omega (arith, x)) in absurd cc

    some_batch : (batches : List (ℕ × Batch)) → false ≡ is_empty batches → hits_of_batches batches ≡ [] → ⊥
    some_batch [] e left = absurd cc
    some_batch (b ∷ bs) e left = absurd cc

    go : (n a : Bool) → n ≡ is_empty r.transit.items → a ≡ list_all is_finished r.statuses.items → TellsWhole r (n && a)
    go true true l e = λ jobs stages. record { finished = finished_all r.statuses.items (sym e); none = no_batch r.transit.items l }
    go true false l e = λ jobs stages whole. let both : true ≡ false = sym (all_finished r.statuses.items whole.finished) ∙ sym e in absurd cc
    go false a l e = λ jobs stages whole. some_batch r.transit.items l whole.none
