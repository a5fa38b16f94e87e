-- The senders after their run, with their workers in their places again.
use Rattle.std.proofs.Common.{◌≡◌, ℕ, true, Bool, List, [], ◌∷◌, ◌++◌, map, reverse, Option, ap, sym, subst, ◌∙◌, arith}
use Rattle.std.specs.List.{AllByRecursion, AllZip}
use Rattle.atomic_table.specs.Seated.{TableId}
use Rattle.br_claim.specs.Claims.{Seated}
use Rattle.br_model.specs.Volume.{Volume}
use Rattle.br_model.specs.Meaning.{Piece, Hit}
use Rattle.br_match.specs.Come.{AllComeTo}
use Rattle.br_match.specs.declared.hit.Batch.{Batch}
use Rattle.br_join.specs.Joining.{Joining, with_batch}
use Rattle.br_join.proofs.TakingLaws.{batch_more}
use Rattle.br_pool.specs.declared.batch_queue.Crew.{Crew}
use Rattle.br_pool.specs.declared.sender.Sender.{Sender}
use Rattle.br_pool.specs.declared.worker.Worker.{Worker}
use Rattle.br_pool.specs.Crew.{Has, HasAll, crew, hired}
use Rattle.br_pool.specs.Gathering.{IsStill, Takes, hits_of_batches}
use Rattle.br_pool.specs.Gathers.{Gathers, HasHired, HasRunFor, HasTakenIn, by_sending, sent_of, shown_to}
use Rattle.br_pool.specs.Outlets.{outlet_view}
use Rattle.br_pool.specs.Pool.{StandsTold}
use Rattle.br_pool.specs.Sending.{AreIn, HasRunSending, IsPassAt, IsSetUpToSend}
use Rattle.br_pool.specs.Workers.{Answer, HasWorkedBy, IsSetUp}
use Rattle.br_pool.proofs.AnswerLaws.{each_so}
use Rattle.br_pool.proofs.GatheringLaws.{has_all_joined, hits_joined}
use Rattle.br_pool.proofs.GathersLaws.{batch_hits, come_inside, come_of_all, each_inside, zip_with_all}
use Rattle.br_pool.proofs.ListLaws.{all_reverse, reverse_reverse, zip_map, zip_reverse, zip_so}
use Rattle.br_pool.proofs.SendingLaws.{sent_weaker}
use Rattle.br_pool.proofs.WorkedLaws.{shown}

-- ---- lists of senders

all_unmap : {A B : Type 0} (P : B → Type 0) (f : A → B) (xs : List A) → AllByRecursion P (map f xs) → AllByRecursion (λ x. P (f x)) xs
all_unmap P f [] h = tt
all_unmap P f (x ∷ xs) h = (h.0, all_unmap P f xs h.1)

all_both : {A : Type 0} (P Q R : A → Type 0) → ((x : A) → P x → Q x → R x) → (xs : List A) → AllByRecursion P xs → AllByRecursion Q xs → AllByRecursion R xs
all_both P Q R so [] p q = tt
all_both P Q R so (x ∷ xs) p q = (so x p.0 q.0, all_both P Q R so xs p.1 q.1)

zip_unmap : {A B : Type 0} (R : B → B → Type 0) (f : A → B) (xs ys : List A) → AllZip R (map f xs) (map f ys) → AllZip (λ x y. R (f x) (f y)) xs ys
zip_unmap R f [] [] z = tt
zip_unmap R f [] (y ∷ ys) z = absurd z
zip_unmap R f (x ∷ xs) [] z = absurd z
zip_unmap R f (x ∷ xs) (y ∷ ys) z = (z.0, zip_unmap R f xs ys z.1)

-- workers that are set up, each with a pass of its own
pub all_set_up : {D : Type 0} (table claims : TableId) (n : ℕ) (senders : List (Sender D)) (workers : List (Worker D)) → reverse (map (λ (s : Sender D). s.worker) senders) ≡ workers
    → AllByRecursion (IsSetUp claims n) workers → AllByRecursion (λ (s : Sender D). IsPassAt table s.outlet.pass × (outlet_view s.outlet ≡ hired)) senders → AllByRecursion (IsSetUpToSend table claims n) senders
all_set_up {D} table claims n senders workers e ready passes =
    all_both (λ (s : Sender D). IsSetUp claims n s.worker) (λ (s : Sender D). IsPassAt table s.outlet.pass × (outlet_view s.outlet ≡ hired)) (IsSetUpToSend table claims n)
    (λ s p q. (p, q.0, q.1)) senders
    (all_unmap (IsSetUp claims n) (λ (s : Sender D). s.worker) senders
    (subst (AllByRecursion (IsSetUp claims n)) (reverse_reverse (map (λ (s : Sender D). s.worker) senders))
    (all_reverse (IsSetUp claims n) (reverse (map (λ (s : Sender D). s.worker) senders)) (subst (AllByRecursion (IsSetUp claims n)) (sym e) ready)))) passes

-- ---- a worker's run

-- what is weaker holds too
worked_so : (is weaker : Piece → Answer → Type 0) → ((p : Piece) (a : Answer) → is p a → weaker p a) → (claims : TableId) (pieces : List Piece) (left : List ℕ) (before after : Option (List Volume))
    (failed_before failed_after : ℕ) (was_out is_out : Bool) (seat : Seated) (answers : List (ℕ × Answer))
    → HasWorkedBy is claims pieces left before after failed_before failed_after was_out is_out seat answers
    → HasWorkedBy weaker claims pieces left before after failed_before failed_after was_out is_out seat answers
worked_so is weaker so claims pieces left before after failed_before failed_after was_out is_out seat answers w = record {
  claims_are = w.claims_are;
  served = w.served;
  each = each_so is weaker so pieces answers w.each;
  answered = w.answered;
  ended = w.ended;
}

module _ {D : Type 0} (shows : D → Option (List Volume)) (failures : D → ℕ) (table claims : TableId) (pieces : List Piece) (left : List ℕ) where
  run_for : (sent : List Hit) (a b : Sender D) → HasRunSending shows failures table claims pieces left a b → AreIn (hits_of_batches (outlet_view b.outlet).pushed) sent
      → HasRunFor shows failures claims pieces left sent a.worker b.worker
  run_for sent a b ran inside =
      worked_so (by_sending pieces shows (hits_of_batches (outlet_view b.outlet).pushed) a.worker b.worker) (by_sending pieces shows sent a.worker b.worker)
      (sent_weaker (λ volumes. StandsTold pieces volumes (shows a.worker.reader.drive) (shows b.worker.reader.drive)) (λ volumes. StandsTold pieces volumes (shows a.worker.reader.drive) (shows b.worker.reader.drive))
      (hits_of_batches (outlet_view b.outlet).pushed) sent (λ volumes told. told) inside)
      claims pieces left (shows a.worker.reader.drive) (shows b.worker.reader.drive) (failures a.worker.reader.drive) (failures b.worker.reader.drive)
      a.worker.reader.out b.worker.reader.out b.worker.seat b.worker.answers.items ran.1.worked

  -- the workers ran, and the hits of their pieces are among all that were pushed
  pub workers_ran : (before after : List (Sender D)) (ws vs : List (Worker D)) → reverse (map (λ (s : Sender D). s.worker) before) ≡ ws → vs ≡ reverse (map (λ (s : Sender D). s.worker) after)
      → AllZip (HasRunSending shows failures table claims pieces left) before after → AllZip (HasRunFor shows failures claims pieces left (hits_of_batches (sent_of after))) ws vs
  workers_ran before after ws vs p q z =
      subst (λ l. AllZip (HasRunFor shows failures claims pieces left sent) l vs) p
      (subst (λ l. AllZip (HasRunFor shows failures claims pieces left sent) (reverse (map worker before)) l) (sym q)
      (zip_reverse (HasRunFor shows failures claims pieces left sent) (map worker before) (map worker after)
      (zip_map (HasRunFor shows failures claims pieces left sent) worker before after
      (zip_with_all (HasRunSending shows failures table claims pieces left) (λ (a b : Sender D). HasRunFor shows failures claims pieces left sent a.worker b.worker)
      (λ (s : Sender D). AreIn (hits_of_batches (outlet_view s.outlet).pushed) sent) (run_for sent) before after z inside))))
    where
      worker : Sender D → Worker D
      worker s = s.worker

      sent : List Hit
      sent = hits_of_batches (sent_of after)

      inside : AllByRecursion (λ (s : Sender D). AreIn (hits_of_batches (outlet_view s.outlet).pushed) (hits_of_batches (sent_of after))) after
      inside =
          subst (AllByRecursion (λ (s : Sender D). AreIn (hits_of_batches (outlet_view s.outlet).pushed) (hits_of_batches (sent_of after)))) (reverse_reverse after)
          (all_reverse (λ (s : Sender D). AreIn (hits_of_batches (outlet_view s.outlet).pushed) (hits_of_batches (sent_of after))) (reverse after) (each_inside (λ (s : Sender D). (outlet_view s.outlet).pushed) (reverse after)))

  -- walks come to all hits that were pushed
  pub all_come : (before after : List (Sender D)) (ws vs : List (Worker D)) → reverse (map (λ (s : Sender D). s.worker) before) ≡ ws → vs ≡ reverse (map (λ (s : Sender D). s.worker) after)
      → AllZip (HasRunSending shows failures table claims pieces left) before after
      → (volumes : List Volume) → AllZip (StandsTold pieces volumes) (shown_to shows ws) (shown_to shows vs) → AllComeTo volumes pieces (hits_of_batches (sent_of after))
  all_come before after ws vs p q z volumes told =
      come_of_all volumes pieces (λ (a b : Sender D). StandsTold pieces volumes (shows a.worker.reader.drive) (shows b.worker.reader.drive)) (λ (s : Sender D). (outlet_view s.outlet).pushed) (reverse before) (reverse after)
      (zip_reverse _ before after
      (zip_so (HasRunSending shows failures table claims pieces left)
      (λ (a b : Sender D). StandsTold pieces volumes (shows a.worker.reader.drive) (shows b.worker.reader.drive) → AllComeTo volumes pieces (hits_of_batches (outlet_view b.outlet).pushed))
      (λ a b r t. r.1.come volumes t) before after z))
      (zip_unmap (StandsTold pieces volumes) (λ (s : Sender D). shows s.worker.reader.drive) (reverse before) (reverse after)
      (subst (λ l. AllZip (StandsTold pieces volumes) l (map (λ (s : Sender D). shows s.worker.reader.drive) (reverse after)))
      (sym (shown (λ (s : Sender D). s.worker) (λ (w : Worker D). shows w.reader.drive) before ws (sym p)))
      (subst (λ l. AllZip (StandsTold pieces volumes) (shown_to shows ws) l)
      (sym (shown (λ (s : Sender D). s.worker) (λ (w : Worker D). shows w.reader.drive) after vs q)) told)))

-- ---- what the gatherer takes in the end

-- u is its view at first, v after the hiring, w after the run, x after it took all passes in, and y at
-- the end; a, b and d are the joiner before the run, after it and at the end
pub gathered : (over : List Volume → Type 0) (pieces : List Piece) (P Q R : Type 0) (n : ℕ) (batches : List Batch) (u v w x y : Crew) (a b d : Joining)
    → u ≡ crew true 65536 [] [] → HasHired n u v → IsStill v w → Takes P v w a b → HasTakenIn n batches w x → IsStill x y → Takes Q w y b d
    → HasAll y.pushed y.popped → (y.parts ≡ 65536 → HasAll y.popped y.pushed) → (R → P) → (R → Q)
    → ((volumes : List Volume) → over volumes → AllComeTo volumes pieces (hits_of_batches batches))
    → Gathers over pieces a d (λ taken. R → AreIn (hits_of_batches batches) taken)
gathered over pieces P Q R n batches u v w x y a b d first few still took more rest last all none f g come = record {
  taken = hits_of_batches (took.batches ++ last.batches);
  took = last.took ∙ ap (λ j. with_batch j (hits_of_batches last.batches)) took.took ∙ batch_more a (hits_of_batches took.batches) (hits_of_batches last.batches) ∙ ap (with_batch a) (sym (hits_joined took.batches last.batches));
  come = λ volumes given. come_inside volumes pieces (hits_of_batches (took.batches ++ last.batches)) (hits_of_batches batches)
      (batch_hits (took.batches ++ last.batches) batches (λ c q. subst (λ l. Has c l) pushed (none parts c (subst (λ l. Has c l) (sym popped) (has_all_joined took.batches last.batches took.popped last.popped took.some last.some c q)))))
      (come volumes given);
  more = λ r. batch_hits batches (took.batches ++ last.batches)
      (λ c q. has_all_joined took.popped last.popped took.batches last.batches (took.all (f r)) (last.all (g r)) c (subst (λ l. Has c l) popped (all c (subst (λ l. Has c l) (sym pushed) q))));
}
  where
    pushed : y.pushed ≡ batches
    pushed = rest.2 ∙ more.2 ∙ ap (λ l. l ++ batches) (still.2 ∙ few.2 ∙ ap (λ (z : Crew). z.pushed) first)

    popped : y.popped ≡ took.popped ++ last.popped
    popped = last.adds ∙ ap (λ l. l ++ last.popped) (took.adds ∙ ap (λ l. l ++ took.popped) (few.3 ∙ ap (λ (z : Crew). z.popped) first))

    parts : y.parts ≡ 65536
    parts = let a = rest.1 in let b = more.1 in let d = still.1 in let e = few.1 in let k = ap (λ (z : Crew). z.parts) first in omega (arith, a, b, d, e, k)
