-- What a joiner has of what workers send, part by part.
use Rattle.std.proofs.Common.{zero, suc, List, [], ◌∷◌, ◌++◌, flat_map, Result, Ok, Err, refl, ap, sym, subst, ◌∙◌, ⊎_elim, inl, inr, arith}
use Rattle.std.proofs.lemmas.List.Elements.{Contains-append_left, Contains-append_right, Contains-append_cases}
use Rattle.std.specs.Prelude.{Contains, IfOk, IsErrAnd, OnOk}
use Rattle.std.specs.List.{AllByRecursion, AllZip}
use Rattle.br_model.specs.Volume.{Volume}
use Rattle.br_model.specs.Meaning.{Piece, Hit}
use Rattle.br_match.specs.Come.{AllComeTo, IsCome}
use Rattle.br_match.specs.declared.hit.Batch.{Batch}
use Rattle.br_join.specs.Joining.{Joining, with_batch}
use Rattle.br_join.proofs.TakingLaws.{batch_none, batch_more}
use Rattle.br_pool.specs.Crew.{Has, HasAll}
use Rattle.br_pool.specs.Gathering.{hits_of_batches}
use Rattle.br_pool.specs.Gathers.{Gathers}
use Rattle.br_pool.specs.Sending.{AreIn}
use Rattle.br_pool.proofs.GatheringLaws.{hits_joined}
use Rattle.br_pool.proofs.SendingLaws.{all_come_joined, all_from_each}

-- ---- one part after the other

pub gathers_none : (over : List Volume → Type 0) (pieces : List Piece) (j : Joining) (more : List Hit → Type 0) → more [] → Gathers over pieces j j more
gathers_none over pieces j more m = record { taken = []; took = sym (batch_none j); come = λ volumes given. tt; more = m }

pub gathers_so : (over : List Volume → Type 0) (pieces : List Piece) (old new : Joining) (more less : List Hit → Type 0) → ((taken : List Hit) → more taken → less taken)
    → Gathers over pieces old new more → Gathers over pieces old new less
gathers_so over pieces old new more less so g = record { taken = g.taken; took = g.took; come = g.come; more = so g.taken g.more }

pub gathers_on : (first second whole : List Volume → Type 0) (pieces : List Piece) (a b d : Joining) (m n o : List Hit → Type 0)
    → ((volumes : List Volume) → whole volumes → first volumes) → ((volumes : List Volume) → whole volumes → second volumes)
    → ((xs ys : List Hit) → m xs → n ys → o (xs ++ ys)) → Gathers first pieces a b m → Gathers second pieces b d n → Gathers whole pieces a d o
gathers_on first second whole pieces a b d m n o p q join g h = record {
  taken = g.taken ++ h.taken;
  took = h.took ∙ ap (λ j. with_batch j h.taken) g.took ∙ batch_more a g.taken h.taken;
  come = λ volumes given. all_come_joined volumes pieces g.taken h.taken (g.come volumes (p volumes given)) (h.come volumes (q volumes given));
  more = join g.taken h.taken g.more h.more;
}

-- a refusal is no success
pub never_ok : {T E : Type 0} (P : T → Type 0) (Q : E → Type 0) (r : Result T E) → IsErrAnd r Q → IfOk r P
never_ok P Q (Ok x) h = absurd h
never_ok P Q (Err e) h = tt

pub never_on_ok : {T E : Type 0} (X : Type 0) (Q : E → Type 0) (r : Result T E) → IsErrAnd r Q → OnOk r X
never_on_ok X Q (Ok x) h = absurd h
never_on_ok X Q (Err e) h = tt

-- ---- hits of batches

has_hits : (b : Batch) (bs : List Batch) (h : Hit) → Has b bs → Contains b.hits.items h → Contains (hits_of_batches bs) h
has_hits b [] h has inside = absurd has
has_hits b (x ∷ bs) h (inl e) inside =
    Contains-append_left x.hits.items (hits_of_batches bs) h (subst (λ (y : Batch). Contains y.hits.items h) (sym e) inside)
has_hits b (x ∷ bs) h (inr has) inside = Contains-append_right x.hits.items (hits_of_batches bs) h (has_hits b bs h has inside)

nothing_inside : {A : Type 0} (x : A) → Contains [] x → ⊥
nothing_inside x (k, low, e) = omega (arith, low)

-- the hits of batches that are among others are among theirs
pub batch_hits : (bs xs : List Batch) → HasAll bs xs → AreIn (hits_of_batches bs) (hits_of_batches xs)
batch_hits [] xs so h inside = absurd (nothing_inside h inside)
batch_hits (b ∷ bs) xs so h inside =
    ⊎_elim (λ (here : Contains b.hits.items h). has_hits b xs h (so b (inl refl)) here) (λ (later : Contains (hits_of_batches bs) h). batch_hits bs xs (λ c q. so c (inr q)) h later)
    (Contains-append_cases b.hits.items (hits_of_batches bs) h inside)

-- what holds of all holds of each
pub each_from_all : {A : Type 0} (P : A → Type 0) (xs : List A) (x : A) → AllByRecursion P xs → Contains xs x → P x
each_from_all P [] x all inside = absurd (nothing_inside x inside)
each_from_all P (y ∷ ys) x all (zero, low, e) = subst P e all.0
each_from_all P (y ∷ ys) x all (suc k, low, e) = each_from_all P ys x all.1 (k, omega (arith, low), e)

-- hits that are among others to which walks come
pub come_inside : (volumes : List Volume) (pieces : List Piece) (xs ys : List Hit) → AreIn xs ys → AllComeTo volumes pieces ys → AllComeTo volumes pieces xs
come_inside volumes pieces xs ys inside come = all_from_each (IsCome volumes pieces) xs (λ h q. each_from_all (IsCome volumes pieces) ys h come (inside h q))

-- the hits of what one pushed are among those of what all pushed
pub each_inside : {S : Type 0} (pushed : S → List Batch) (xs : List S) → AllByRecursion (λ (s : S). AreIn (hits_of_batches (pushed s)) (hits_of_batches (flat_map pushed xs))) xs
each_inside pushed [] = tt
each_inside {S} pushed (x ∷ xs) = (
  λ h inside. subst (λ l. Contains l h) (sym (hits_joined (pushed x) (flat_map pushed xs))) (Contains-append_left (hits_of_batches (pushed x)) (hits_of_batches (flat_map pushed xs)) h inside),
  wider xs (each_inside pushed xs),
)
  where
    wider : (ys : List S) → AllByRecursion (λ (s : S). AreIn (hits_of_batches (pushed s)) (hits_of_batches (flat_map pushed xs))) ys
        → AllByRecursion (λ (s : S). AreIn (hits_of_batches (pushed s)) (hits_of_batches (flat_map pushed (x ∷ xs)))) ys
    wider [] all = tt
    wider (y ∷ ys) all = (
      λ h inside. subst (λ l. Contains l h) (sym (hits_joined (pushed x) (flat_map pushed xs))) (Contains-append_right (hits_of_batches (pushed x)) (hits_of_batches (flat_map pushed xs)) h (all.0 h inside)),
      wider ys all.1,
    )

-- walks come to all hits that were pushed
pub come_of_all : {S : Type 0} (volumes : List Volume) (pieces : List Piece) (Told : S → S → Type 0) (pushed : S → List Batch) (xs ys : List S)
    → AllZip (λ (x y : S). Told x y → AllComeTo volumes pieces (hits_of_batches (pushed y))) xs ys → AllZip Told xs ys → AllComeTo volumes pieces (hits_of_batches (flat_map pushed ys))
come_of_all volumes pieces Told pushed [] [] come told = tt
come_of_all volumes pieces Told pushed [] (y ∷ ys) come told = absurd told
come_of_all volumes pieces Told pushed (x ∷ xs) [] come told = absurd told
come_of_all volumes pieces Told pushed (x ∷ xs) (y ∷ ys) come told =
    subst (AllComeTo volumes pieces) (sym (hits_joined (pushed y) (flat_map pushed ys)))
    (all_come_joined volumes pieces (hits_of_batches (pushed y)) (hits_of_batches (flat_map pushed ys)) (come.0 told.0) (come_of_all volumes pieces Told pushed xs ys come.1 told.1))

-- each pair, with what holds of its second part
pub zip_with_all : {A B : Type 0} (R T : A → B → Type 0) (P : B → Type 0) → ((a : A) (b : B) → R a b → P b → T a b) → (xs : List A) (ys : List B) → AllZip R xs ys → AllByRecursion P ys → AllZip T xs ys
zip_with_all R T P so [] [] z all = tt
zip_with_all R T P so [] (y ∷ ys) z all = absurd z
zip_with_all R T P so (x ∷ xs) [] z all = absurd z
zip_with_all R T P so (x ∷ xs) (y ∷ ys) z all = (so x y z.0 all.0, zip_with_all R T P so xs ys z.1 all.1)
