-- How a restore ends whose files were made once more.
use Rattle.std.proofs.Common.{◌≡◌, ◌≤◌, ℕ, zero, suc, Bool, true, false, cond, List, [], ◌∷◌, ◌++◌, length, take, drop, Option, Some, Ok, Err, refl, ap, sym, subst, arith, ◌∙◌, append-nil}
use Rattle.std.specs.List.{AllZip}
use Rattle.br_model.specs.Answer.{IsRefusal}
use Rattle.br_model.specs.Delivery.{Stop}
use Rattle.br_model.specs.File.{Item}
use Rattle.br_model.specs.Restored.{Restored}
use Rattle.br_reread_files.specs.Again.{IsLike}
use Rattle.br_sink.specs.Delivery.{stop_cause}
use Rattle.br_sink.specs.Sink.{HasMore}
use Rattle.br_engine.specs.DeliveredAgain.{DeliversAll, EndsLike, PutsLike}
use Rattle.br_engine.specs.Delivering.{EndsWith, items_of}
use Rattle.br_engine.specs.Outputs.{InSink, StopsOnlyIf, are_files, end_of_files}
use Rattle.br_engine.specs.Stopping.{IsRestoreStop}
use Rattle.br_engine.specs.declared.restore_end.RestoreEnd.{RestoreEnd}
use Rattle.br_engine.specs.declared.restore_end.RestoreEnd.TheVariants.{AllFiles, SomeFaults, Stopped}
use Rattle.br_engine.proofs.DeliverLaws.{ends_whole}
use Rattle.br_engine.proofs.LikeLaws.{all_themselves, like_length, same_delivery, same_files, same_stop, same_totals, with_items, with_like, with_put, with_same}
use Rattle.std.proofs.Math.Seq.{take-length}
use Rattle.std.proofs.lemmas.List.{length-take-le}

drop_whole : {X : Type 0} (xs : List X) (n : ℕ) → length xs ≤ n → drop n xs ≡ []
drop_whole [] zero few = refl
drop_whole [] (suc n) few = refl
drop_whole (x ∷ xs) zero few = absurd (omega (arith, few))
drop_whole (x ∷ xs) (suc n) few = drop_whole xs n (omega (arith, few))

take_front : {X : Type 0} (xs ys : List X) → take (length xs) (xs ++ ys) ≡ xs
take_front [] ys = refl
take_front (x ∷ xs) ys = ap (λ (zs : List _). x ∷ zs) (take_front xs ys)

-- nothing was made once more
pub ends_like_itself : (given : Type 0) (had has : InSink) (os : List Restored) (end : RestoreEnd) → EndsWith had has os end → EndsLike given had has os end
ends_like_itself given had has os end ends = record { rs = os; like = all_themselves os; same = λ _. refl; ends = ends }

-- all files were put
pub all_put : (given : Type 0) (had has : Option (List Item)) (os : List Restored) (end : RestoreEnd) → PutsLike {A = Unit {0}} given (items_of os) had has (Ok tt)
    → DeliversAll (Ok tt) os → end ≡ end_of_files os → EndsLike given (Some had) (Some has) os end
all_put given had has os end puts all is =
    let items = items_of os in
    let n = length items in
    let front : AllZip IsLike puts.put (take n items) = subst (λ (is : List Item). AllZip IsLike puts.put is) (sym (take-length items)) puts.like in
    let rs = with_items os puts.put in
    let like = with_like os puts.put n front in
    let many : length puts.put ≡ n = like_length puts.put items puts.like in
    let of_rs : items_of rs ≡ puts.put =
    with_put os puts.put n front ∙ ap (λ (is : List Item). puts.put ++ is) (drop_whole items (length puts.put) (omega (arith, many))) ∙ append-nil puts.put in
    record {
      rs = rs;
      like = like;
      same = λ given. with_same os puts.put n (puts.same given ∙ sym (take-length items));
      ends =
          ends_whole (Some had) (Some has) rs end (is ∙ sym (ap (λ (b : Bool). cond b AllFiles SomeFaults) (same_files rs os like)))
          (same_delivery rs os like ∙ all ∙ sym (ap Ok (same_totals rs os like)), subst (λ (is : List Item). HasMore is had has) (sym of_rs) puts.more);
    }

-- the delivery stopped
pub some_put : (given : Type 0) (had has : Option (List Item)) (os : List Restored) (stop : Stop) → PutsLike {A = Unit {0}} given (items_of os) had has (Err stop)
    → DeliversAll (Err stop) os → IsRestoreStop (items_of os) stop → EndsLike given (Some had) (Some has) os (Stopped stop)
some_put given had has os stop puts refused is =
    let items = items_of os in
    let n = stop.done in
    let rs = with_items os puts.put in
    let like = with_like os puts.put n puts.like in
    let few = is.within in
    let many : length puts.put ≡ n = like_length puts.put (take n items) puts.like ∙ length-take-le n items (omega (arith, few)) in
    let of_rs : take n (items_of rs) ≡ puts.put =
    ap (take n) (with_put os puts.put n puts.like) ∙ ap (λ (k : ℕ). take k (puts.put ++ drop (length puts.put) items)) (sym many) ∙ take_front puts.put _ in
    record {
      rs = rs;
      like = like;
      same = λ given. with_same os puts.put n (puts.same given);
      ends = (
        tt,
        (
          subst (IsRefusal (stop_cause stop)) (sym (same_delivery rs os like)) refused,
          same_stop rs os stop like is,
          subst (λ (is : List Item). HasMore is had has) (sym of_rs) puts.more,
        ),
      );
    }

-- ---- a stop by a number

-- a delivery that does not stop
pub never_stops : (number : ℕ) (claim : Type 0) (rs : List Restored) (end : RestoreEnd) → end ≡ end_of_files rs → StopsOnlyIf number claim end
never_stops number claim rs end is = subst (λ (e : RestoreEnd). StopsOnlyIf number claim e) (sym is) (go (are_files rs))
  where
    go : (b : Bool) → StopsOnlyIf number claim (cond b AllFiles SomeFaults)
    go true = tt
    go false = tt

-- what follows from what is so at a stop by the number
pub stops_weaker : (number : ℕ) (claim more : Type 0) (end : RestoreEnd) → (claim → more) → StopsOnlyIf number claim end → StopsOnlyIf number more end
stops_weaker number claim more AllFiles so stops = tt
stops_weaker number claim more SomeFaults so stops = tt
stops_weaker number claim more (Stopped stop) so stops = λ is. so (stops is)
