-- What the gatherer takes, one look after the other, and what passes push.
use Rattle.std.proofs.Common.{◌≡◌, List, [], ◌∷◌, ◌++◌, refl, sym, ap, ◌∙◌, ⊎_elim, append_assoc}
use Rattle.std.proofs.lemmas.List.{append-nil}
use Rattle.br_model.specs.Meaning.{Hit}
use Rattle.br_match.specs.declared.hit.Batch.{Batch}
use Rattle.br_join.specs.Joining.{Joining, with_batch}
use Rattle.br_join.proofs.TakingLaws.{batch_none, batch_more}
use Rattle.br_pool.specs.declared.batch_queue.Crew.{Crew}
use Rattle.br_pool.specs.Crew.{Has, HasAll, crew}
use Rattle.br_pool.specs.Gathering.{IsStill, Pushes, Takes, hits_of_batches, with_pushed}
use Rattle.br_pool.proofs.CrewLaws.{has_left, has_right, has_split}

pub hits_joined : (a b : List Batch) → hits_of_batches (a ++ b) ≡ hits_of_batches a ++ hits_of_batches b
hits_joined [] b = refl
hits_joined (x ∷ a) b = ap (λ l. x.hits.items ++ l) (hits_joined a b) ∙ sym (append_assoc x.hits.items (hits_of_batches a) (hits_of_batches b))

-- ---- what is popped

pub still_itself : (v w : Crew) → w ≡ v → IsStill v w
still_itself v w e = (ap (λ (y : Crew). y.gathers) e, ap (λ (y : Crew). y.parts) e, ap (λ (y : Crew). y.pushed) e)

pub still_on : (u v w : Crew) → IsStill u v → IsStill v w → IsStill u w
still_on u v w p q = (q.0 ∙ p.0, q.1 ∙ p.1, q.2 ∙ p.2)

pub takes_none : (P : Type 0) (v w : Crew) (before after : Joining) → w ≡ v → after ≡ before → Takes P v w before after
takes_none P v w before after e f = record {
  popped = [];
  batches = [];
  adds = ap (λ (y : Crew). y.popped) e ∙ sym (append-nil v.popped);
  some = λ b h. h;
  took = f ∙ sym (batch_none before);
  all = λ p b h. h;
}

-- the joiner took a batch that was popped
pub takes_one : (P : Type 0) (v w : Crew) (before after : Joining) (x : Batch) → w.popped ≡ v.popped ++ x ∷ [] → after ≡ with_batch before x.hits.items → Takes P v w before after
takes_one P v w before after x e f = record {
  popped = x ∷ [];
  batches = x ∷ [];
  adds = e;
  some = λ b h. h;
  took = f ∙ ap (with_batch before) (sym (append-nil x.hits.items));
  all = λ p b h. h;
}

-- a batch was popped and lost
pub takes_lost : (P : Type 0) (v w : Crew) (before after : Joining) (x : Batch) → (P → ⊥) → w.popped ≡ v.popped ++ x ∷ [] → after ≡ before → Takes P v w before after
takes_lost P v w before after x none e f = record {
  popped = x ∷ [];
  batches = [];
  adds = e;
  some = λ b h. absurd h;
  took = f ∙ sym (batch_none before);
  all = λ p. absurd (none p);
}

pub has_all_joined : (bs cs xs ys : List Batch) → HasAll bs xs → HasAll cs ys → HasAll (bs ++ cs) (xs ++ ys)
has_all_joined bs cs xs ys p q = λ b h. ⊎_elim (λ (a : Has b bs). has_left b xs ys (p b a)) (λ (a : Has b cs). has_right b xs ys (q b a)) (has_split b bs cs h)

pub takes_on : (P Q R : Type 0) (u v w : Crew) (a b d : Joining) → (R → P) → (R → Q) → Takes P u v a b → Takes Q v w b d → Takes R u w a d
takes_on P Q R u v w a b d f g s t = record {
  popped = s.popped ++ t.popped;
  batches = s.batches ++ t.batches;
  adds = t.adds ∙ ap (λ l. l ++ t.popped) s.adds ∙ append_assoc u.popped s.popped t.popped;
  some = has_all_joined s.batches t.batches s.popped t.popped s.some t.some;
  took = t.took ∙ ap (λ j. with_batch j (hits_of_batches t.batches)) s.took ∙ batch_more a (hits_of_batches s.batches) (hits_of_batches t.batches)
      ∙ ap (with_batch a) (sym (hits_joined s.batches t.batches));
  all = λ r. has_all_joined s.popped t.popped s.batches t.batches (s.all (f r)) (t.all (g r));
}

-- a stronger condition
pub takes_so : (P Q : Type 0) (v w : Crew) (a b : Joining) → (Q → P) → Takes P v w a b → Takes Q v w a b
takes_so P Q v w a b f t = record { popped = t.popped; batches = t.batches; adds = t.adds; some = t.some; took = t.took; all = λ q. t.all (f q) }

-- to know more that was pushed changes nothing
pub takes_into : (P : Type 0) (v w x : Crew) (a b : Joining) → x.popped ≡ w.popped → Takes P v w a b → Takes P v x a b
takes_into P v w x a b e t = record { popped = t.popped; batches = t.batches; adds = e ∙ t.adds; some = t.some; took = t.took; all = t.all }

-- ---- what is pushed

pub pushes_none : (v : Crew) → Pushes v v []
pushes_none v = ([], ap (λ l. crew v.gathers v.parts l v.popped) (sym (append-nil v.pushed)), refl)

pub pushes_on : (u v w : Crew) (xs ys : List Hit) → Pushes u v xs → Pushes v w ys → Pushes u w (xs ++ ys)
pushes_on u v w xs ys s t = (
  s.0 ++ t.0,
  t.1 ∙ ap (λ y. with_pushed y t.0) s.1 ∙ ap (λ l. crew u.gathers u.parts l u.popped) (append_assoc u.pushed s.0 t.0),
  hits_joined s.0 t.0 ∙ ap (λ l. l ++ hits_of_batches t.0) s.2 ∙ ap (λ l. xs ++ l) t.2,
)

-- a batch was pushed
pub pushes_one : (v w : Crew) (x : Batch) → w ≡ crew v.gathers v.parts (v.pushed ++ x ∷ []) v.popped → Pushes v w x.hits.items
pushes_one v w x e = (x ∷ [], e, append-nil x.hits.items)

-- the hits of what is pushed, after some more are
pub sent_now : (v w : Crew) (hits : List Hit) → Pushes v w hits → hits_of_batches w.pushed ≡ hits_of_batches v.pushed ++ hits
sent_now v w hits s = ap (λ (y : Crew). hits_of_batches y.pushed) s.1 ∙ hits_joined v.pushed s.0 ∙ ap (λ l. hits_of_batches v.pushed ++ l) s.2
