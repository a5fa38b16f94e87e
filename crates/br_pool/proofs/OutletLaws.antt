-- What an outlet shows while batches are pushed and kept.
use Rattle.std.proofs.Common.{◌≡◌, List, [], ◌∷◌, ◌++◌, Result, Ok, Err, sym, ap, subst, ◌∙◌, append_assoc}
use Rattle.std.proofs.lemmas.List.{append-nil}
use Rattle.std.specs.Prelude.{OnErr, OnOk}
use Rattle.br_model.specs.Meaning.{Hit}
use Rattle.br_match.specs.declared.hit.Batch.{Batch}
use Rattle.br_pool.specs.Crew.{crew, sent_by}
use Rattle.br_pool.specs.Gathering.{Pushes, with_pushed}
use Rattle.br_pool.specs.declared.batch_queue.Crew.{Crew}
use Rattle.br_pool.proofs.GatheringLaws.{pushes_none, pushes_one}

-- nothing is kept
pub nothing_kept : (v : Crew) (kept : List Batch) → kept ≡ [] → with_pushed v kept ≡ v
nothing_kept v kept none = ap (with_pushed v) none ∙ ap (λ l. crew v.gathers v.parts l v.popped) (append-nil v.pushed)

-- the next of some batches is pushed
pub next_sent : (v w u : Crew) (left rest : List Batch) (x : Batch) → left ≡ x ∷ rest → w ≡ sent_by v x → with_pushed v left ≡ u → with_pushed w rest ≡ u
next_sent v w u left rest x is sent all =
    ap (λ (y : Crew). with_pushed y rest) sent ∙ ap (λ l. crew v.gathers v.parts l v.popped) (append_assoc v.pushed (x ∷ []) rest) ∙ ap (with_pushed v) (sym is) ∙ all

-- what was kept is pushed
pub kept_are_sent : (v w : Crew) (kept left : List Batch) → w ≡ with_pushed v kept → left ≡ [] → with_pushed w left ≡ with_pushed v kept
kept_are_sent v w kept left sent none = nothing_kept w left none ∙ sent

-- one more batch is kept
pub one_kept : (v : Crew) (kept now : List Batch) (x : Batch) → now ≡ kept ++ x ∷ [] → with_pushed v now ≡ sent_by (with_pushed v kept) x
one_kept v kept now x is = ap (with_pushed v) is ∙ ap (λ l. crew v.gathers v.parts l v.popped) (sym (append_assoc v.pushed kept (x ∷ [])))

-- one more batch is pushed, while nothing is kept
pub one_sent : (u v w : Crew) (kept : List Batch) (x : Batch) → with_pushed v kept ≡ u → kept ≡ [] → w ≡ sent_by v x → with_pushed w kept ≡ sent_by u x
one_sent u v w kept x was none sent = nothing_kept w kept none ∙ sent ∙ ap (λ (y : Crew). sent_by y x) (sym (nothing_kept v kept none) ∙ was)

-- ---- if memory does not run out

-- a batch that came back is kept
pub back_is_kept : {E : Type 0} (r : Result (Unit {0}) E) (u v w : Crew) (kept : List Batch) (x y : Batch) → v ≡ u → x ≡ y → OnOk r (w ≡ sent_by (with_pushed v kept) x)
    → OnOk r (w ≡ sent_by (with_pushed u kept) y)
back_is_kept r u v w kept x y p q h = subst (λ (t : Crew × Batch). OnOk r (w ≡ sent_by (with_pushed t.0 kept) t.1)) (λ i. (p i, q i)) h

pub back_is_lost : {E : Type 0} (r : Result (Unit {0}) E) (u v w : Crew) (kept : List Batch) → v ≡ u → OnErr r (w ≡ with_pushed v kept) → OnErr r (w ≡ with_pushed u kept)
back_is_lost r u v w kept p h = subst (λ (t : Crew). OnErr r (w ≡ with_pushed t kept)) p h

-- the hits of a batch that is sent
pub pushes_on_ok : {E : Type 0} (r : Result (Unit {0}) E) (v w : Crew) (x : Batch) → OnOk r (w ≡ sent_by v x) → OnOk r (Pushes v w x.hits.items)
pushes_on_ok (Ok u) v w x sent = pushes_one v w x sent
pushes_on_ok (Err e) v w x sent = tt

-- a batch without hits
pub pushes_no_hits : (v : Crew) (hits : List Hit) → hits ≡ [] → Pushes v v hits
pushes_no_hits v hits none = subst (Pushes v v) (sym none) (pushes_none v)
