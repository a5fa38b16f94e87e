-- A delivery that goes on after a file at which its sink fails.
use Rattle.std.proofs.Common.{◌≡◌, ℕ, zero, suc, ◌+◌, ◌<◌, ◌≤◌, ◌-◌, cond, List, [], ◌∷◌, ◌++◌, length, take, drop, map, refl, ap, sym, subst, ◌∙◌, arith, append_assoc, append-nil, length-append, Option, Result, Ok, Err}
use Rattle.std.specs.Prelude.{count_by, filter_map, is_ok, OnErr, OnOk}
use Rattle.std.proofs.lemmas.List.{length-map, take-append-drop}
use Rattle.std.proofs.lemmas.List.Sums.{count_by-le-length, sum_by-cons}
use Rattle.br_model.specs.Delivery.{Stop, item_of}
use Rattle.br_model.specs.File as file
use Rattle.br_model.specs.File.{Item}
use Rattle.br_model.specs.Manifest.{totals_of}
use Rattle.br_model.specs.Name.{FileKey}
use Rattle.br_model.specs.Restored.{Restored}
use Rattle.br_join.specs.Outcome.{restored}
use Rattle.br_join.specs.declared.item.Outcome.{Outcome}
use Rattle.br_sink.specs.Delivery.{IsStopBelow, items_in}
use Rattle.br_sink.specs.Sink.{HasMore}
use Rattle.br_sink.proofs.DeliveryLaws.{items_of_both, none_more}
use Rattle.br_sink.specs.KeepGoing.{AreNoted, IsFileAt, Leaves, NotesStop, Takes}
use Rattle.br_sink.specs.declared.left_out.Noted.{Noted}
use Rattle.br_sink.proofs.LeavingLaws.{notes_more, notes_out}
use Rattle.std.proofs.Math.Seq.{take-add, take-append-add, take-length, take-nil}

-- ---- at the file where a sink stopped

module _ (os : List (FileKey × Outcome)) (stop : Stop) (before middle after : Noted) (place : ℕ) (item : Item) (found : IsFileAt os stop.done place item) (takes : Takes before middle (items_in (take place os))) where
  -- the files before it were taken
  pub stop_kept : NotesStop os stop before middle
  stop_kept start had has earlier later stopped noted =
      notes_more start had has earlier later before middle (items_in (take place os)) noted (subst (λ (is : List Item). HasMore is had has) (sym found.before) stopped.put)
      stopped.counted takes

  -- and it is left out
  pub stop_left : Leaves middle after item → stop.number ≡ 80 → NotesStop os stop before after
  stop_left leaves eighty start had has earlier later stopped noted =
      notes_out start has earlier later middle after item
      (notes_more start had has earlier earlier before middle (items_in (take place os)) noted (subst (λ (is : List Item). HasMore is had has) (sym found.before) stopped.put)
      (omega arith) takes) (stopped.failed eighty) leaves

  -- or memory ran out
  pub stop_none : Takes middle after [] → NotesStop os stop before after
  stop_none none start had has earlier later stopped noted =
      let kept = stop_kept start had has earlier later stopped noted in
      notes_more start has has later later middle after [] kept (none_more has) (omega arith) none

  pub taken_kept : middle.taken.items ≡ before.taken.items ++ take stop.done (items_in os)
  taken_kept = takes.taken ∙ ap (λ (is : List Item). before.taken.items ++ is) found.before

  pub taken_left : Leaves middle after item → after.taken.items ≡ before.taken.items ++ items_in (take (place + 1) os)
  taken_left leaves =
      leaves.taken ∙ ap (λ (is : List Item). is ++ item ∷ []) taken_kept ∙ append_assoc before.taken.items (take stop.done (items_in os)) (item ∷ [])
      ∙ sym (ap (λ (is : List Item). before.taken.items ++ is) found.at_it)

  pub taken_none : Takes middle after [] → after.taken.items ≡ before.taken.items ++ take stop.done (items_in os)
  taken_none none = none.taken ∙ append-nil middle.taken.items ∙ taken_kept

-- ---- one file at which a sink fails

pub fault_noted : {A E : Type 0} (start had has : Option (List Item)) (earlier later : ℕ) (before after : Noted) (item : Item) (Failed : Type 0) (r : Result A E)
    → has ≡ had → earlier ≤ later → (Failed → earlier < later) → OnOk r (Failed × Leaves before after item) → OnErr r (Takes before after [])
    → AreNoted start had earlier before → AreNoted start has later after
fault_noted start had has earlier later before after item Failed (Ok a) same counted failed left none noted =
    notes_out start has earlier later before after item (subst (λ (h : Option (List Item)). AreNoted start h earlier before) (sym same) noted) (failed left.0) left.1
fault_noted start had has earlier later before after item Failed (Err e) same counted failed left none noted =
    notes_more start had has earlier later before after [] noted (subst (λ (h : Option (List Item)). HasMore [] had h) (sym same) (none_more had)) counted none

-- ---- the outcomes that come next

pub rest_is : {X : Type 0} (place : ℕ) (xs : List X) → take (length xs - place) (drop place xs) ≡ drop place xs
rest_is zero xs = let all : length xs - 0 ≡ length xs = omega arith in ap (λ (k : ℕ). take k xs) all ∙ take-length xs
rest_is (suc place) [] = take-nil _
rest_is (suc place) (x ∷ xs) =
    let less : length (x ∷ xs) - suc place ≡ length xs - place = omega arith in
    ap (λ (k : ℕ). take k (drop place xs)) less ∙ rest_is place xs

-- this number is left
pub length_left : {X : Type 0} (place : ℕ) (xs : List X) → place ≤ length xs → place + length (drop place xs) ≡ length xs
length_left zero xs few = omega arith
length_left (suc place) [] few = absurd (omega (arith, few))
length_left (suc place) (x ∷ xs) few = let more = length_left place xs (omega (arith, few)) in omega (arith, more)

-- the files of some more
pub items_next : (os : List (FileKey × Outcome)) (place n : ℕ) → items_in (take (place + n) os) ≡ items_in (take place os) ++ items_in (take n (drop place os))
items_next os place n = ap items_in (take-add place n os) ∙ items_of_both (take place os) (take n (drop place os))

-- all files
pub items_parted : (os : List (FileKey × Outcome)) (place : ℕ) → items_in os ≡ items_in (take place os) ++ items_in (drop place os)
items_parted os place = ap items_in (sym (take-append-drop place os)) ∙ items_of_both (take place os) (drop place os)

-- those before a stop among the outcomes that are left
pub items_stopped : (os : List (FileKey × Outcome)) (place done : ℕ)
    → take (length (items_in (take place os)) + done) (items_in os) ≡ items_in (take place os) ++ take done (items_in (drop place os))
items_stopped os place done =
    ap (take (length (items_in (take place os)) + done)) (items_parted os place) ∙ take-append-add (items_in (take place os)) (items_in (drop place os)) done

pub stop_below : (os : List (FileKey × Outcome)) (place number done : ℕ) → IsStopBelow (length (items_in (drop place os))) (record { number = number; done = done })
    → IsStopBelow (length (items_in os)) (record { number = number; done = length (items_in (take place os)) + done })
stop_below os place number done below =
    let all = ap length (items_parted os place) ∙ length-append (items_in (take place os)) (items_in (drop place os)) in
    let within = below.within in record { number = below.number; within = omega (arith, all, within) }

-- ---- the files among outcomes

pub counted : (rs : List Restored) → count_by (λ (r : Restored). is_ok r.outcome) rs ≡ length (filter_map item_of rs)
counted [] = refl
counted (r ∷ rs) = sum_by-cons (λ (r : Restored). cond (is_ok r.outcome) 1 0) r rs ∙ go r.outcome refl (counted rs)
  where
    go : (a : file.Outcome) → r.outcome ≡ a → count_by (λ (r : Restored). is_ok r.outcome) rs ≡ length (filter_map item_of rs)
        → cond (is_ok r.outcome) 1 0 + count_by (λ (r : Restored). is_ok r.outcome) rs ≡ length (filter_map item_of (r ∷ rs))
    go (Ok item) e more =
        let one : ◌≡◌ {A = ℕ} (cond (is_ok r.outcome) 1 0) 1 = rw e refl in
        let longer : length (filter_map item_of (r ∷ rs)) ≡ suc (length (filter_map item_of rs)) = rw e refl in
        omega (arith, one, more, longer)
    go (Err f) e more =
        let none : ◌≡◌ {A = ℕ} (cond (is_ok r.outcome) 1 0) 0 = rw e refl in
        let same : length (filter_map item_of (r ∷ rs)) ≡ length (filter_map item_of rs) = rw e refl in
        omega (arith, none, more, same)

-- their number is that of the totals
pub files_counted : (os : List (FileKey × Outcome)) → (totals_of (map restored os)).files ≡ length (items_in os)
unfolding totals_of
files_counted os = counted (map restored os)

-- no more than the outcomes
pub few_items : (os : List (FileKey × Outcome)) → length (items_in os) ≤ length os
few_items os =
    let c = counted (map restored os) in
    let l = count_by-le-length (λ (r : Restored). is_ok r.outcome) (map restored os) in
    let m = length-map os restored in
    omega (arith, c, l, m)
