-- Where a delivery stops whose files are made once more, and what was put by then.
use Rattle.std.proofs.Common.{◌≡◌, ◌≤◌, ◌<◌, ◌+◌, ℕ, zero, suc, List, [], ◌∷◌, ◌++◌, length, map, take, drop, Option, Result, Ok, Err, refl, ap, sym, subst, arith, ◌∙◌, inl, inr}
use Rattle.std.specs.Prelude.{IfErr}
use Rattle.std.specs.List.{AllZip}
use Rattle.std.proofs.lemmas.List.{append_assoc, take-append-drop, take-append-le, length-take-le}
use Rattle.br_model.specs.Delivery.{Stop}
use Rattle.br_model.specs.File.{Item}
use Rattle.br_model.specs.Name.{FileKey}
use Rattle.br_model.specs.Manifest.{totals_of}
use Rattle.br_model.specs.Restored.{Restored}
use Rattle.br_join.specs.Outcome.{restored}
use Rattle.br_join.specs.declared.item.Outcome.{Outcome}
use Rattle.br_join.specs.declared.item.Outcome.TheVariants.{File}
use Rattle.br_data.specs.ManyDrives.{RereadingMany}
use Rattle.br_reread_files.specs.Again.{IsLike}
use Rattle.br_reread_parts.specs.FileParts.{PutsAlike}
use Rattle.br_reread_files.specs.FileParts.{GivesItem}
use Rattle.br_reread_files.specs.Gathered.{Gathered}
use Rattle.br_reread_files.specs.TwoFiles.{GivesBoth, GivesKeyed, PutsBoth}
use Rattle.br_reread_files.specs.declared.two_files.KeyedItem.{KeyedItem}
use Rattle.br_sink.specs.Delivery.{AreApart, IsStopBelow, IsStopIn, StandApart, items_in, items_put}
use Rattle.std.proofs.lemmas.Result.{IfErr-weaker}
use Rattle.br_sink.specs.FileParts.{AreAlike, parts_number, with_bytes}
use Rattle.br_sink.specs.Sink.{HasMore}
use Rattle.br_sink.specs.declared.file_parts.PartsFault.{PartsFault}
use Rattle.br_sink.specs.declared.file_parts.PartsFault.TheVariants as parts
use Rattle.br_sink.proofs.DeliveryLaws.{apart_taken, fewer_items, items_of_both, more_behind, none_more, taken_items}
use Rattle.br_data.specs.declared.reread_fault.AgainFault.{AgainFault}
use Rattle.br_data.specs.declared.reread_fault.AgainFault.TheVariants as again
use Rattle.br_engine.specs.DeliveredAgain.{CanMake, PutsLike, PutsTwoAgain, keyed}
use Rattle.br_engine.specs.Stopping.{IsChangedOnly, IsRestoreStop, IsStopAgain, again_number}
use Rattle.br_engine.specs.Delivering.{items_of}
use Rattle.br_engine.proofs.LikeLaws.{like_length, like_take}
use Rattle.std.proofs.Math.Seq.{take-add, take-append-add, take-length}
use Rattle.br_sink.proofs.PassingLaws.{counted}

-- ---- the stop

-- such a stop is one of the delivery
pub again_below : (os : List (FileKey × Outcome)) (place files : ℕ) → StandApart os place files → (stop : Stop) → IsStopAgain (length (items_in (take place os))) stop
    → IsRestoreStop (items_in os) stop
again_below os place files stands stop below =
    let fewer = fewer_items os place in
    let apart_at : (n : ℕ) → n ≤ length (items_in (take place os)) → AreApart (take n (items_in os)) =
    λ n few. subst AreApart (sym (taken_items os place n few)) (apart_taken (items_in (take place os)) n stands.apart) in record {
      number = elim below.number [
        | inl one ↦ inl one
        | inr other ↦ elim other [ inl eighty ↦ inr (inl eighty) | inr again ↦ inr (inr (inr again)) ]
      ];
      within = omega (arith, below.within, fewer);
      before = apart_at stop.done (omega (arith, below.within));
      at_it = λ _. apart_at (stop.done + 1) (omega (arith, below.within));
    }

-- so is a stop of a delivery in memory
pub held_stop : (items : List Item) (stop : Stop) → IsStopIn items stop → IsRestoreStop items stop
held_stop items stop is = record {
  number = elim is.number [
    | inl one ↦ inl one
    | inr other ↦ elim other [ inl eighty ↦ inr (inl eighty) | inr conflict ↦ inr (inr (inl conflict)) ]
  ];
  within = is.within;
  before = is.before;
  at_it = is.at_it;
}

-- which is neither 70 nor 72
pub held_only : (items : List Item) (stop : Stop) (n : ℕ) → (n ≡ 1 → ⊥) → (n ≡ 80 → ⊥) → (n ≡ 81 → ⊥) → IsStopIn items stop → stop.number ≡ n → ⊥
held_only items stop n not_1 not_80 not_81 is at = elim is.number [
  | inl one ↦ not_1 (sym at ∙ one)
  | inr other ↦ elim other [ inl eighty ↦ not_80 (sym at ∙ eighty) | inr conflict ↦ not_81 (sym at ∙ conflict) ]
]

-- and so is one of a sink
pub below_only : (count : ℕ) (stop : Stop) (n : ℕ) → (n ≡ 1 → ⊥) → (n ≡ 80 → ⊥) → IsStopBelow count stop → stop.number ≡ n → ⊥
below_only count stop n not_1 not_80 is at = elim is.number [ inl one ↦ not_1 (sym at ∙ one) | inr eighty ↦ not_80 (sym at ∙ eighty) ]

-- a stop by another number
pub not_changed : (given : Type 0) (number done : ℕ) → (number ≡ 72 → ⊥) → IsChangedOnly given (record { number = number; done = done })
not_changed given number done other = λ is. absurd (other is)

-- ---- what was put

like_both : (xs ys us vs : List Item) → AllZip IsLike xs us → AllZip IsLike ys vs → AllZip IsLike (xs ++ ys) (us ++ vs)
like_both [] ys [] vs p q = q
like_both [] ys (u ∷ us) vs p q = absurd p
like_both (x ∷ xs) ys [] vs p q = absurd p
like_both (x ∷ xs) ys (u ∷ us) vs p q = (p.0, like_both xs ys us vs p.1 q)

-- nothing was put of no files
pub none_put : (given : Type 0) (has : Option (List Item)) → PutsLike {A = Unit {0}} given [] has has (Ok tt)
none_put given has = record { put = []; like = tt; same = λ _. refl; more = none_more has }

-- some files and then others
pub puts_more : (given : Type 0) (xs ys : List Item) (had mid has : Option (List Item)) → PutsLike {A = Unit {0}} given xs had mid (Ok tt) → PutsLike {A = Unit {0}} given ys mid has (Ok tt)
    → PutsLike {A = Unit {0}} given (xs ++ ys) had has (Ok tt)
puts_more given xs ys had mid has p q = record {
  put = p.put ++ q.put;
  like = like_both p.put q.put xs ys p.like q.like;
  same = λ g i. p.same g i ++ q.same g i;
  more = more_behind p.put q.put had mid has p.more q.more;
}

-- some files, and then a stop among others
pub puts_stop : (given : Type 0) (xs ys zs : List Item) (had mid has : Option (List Item)) (number done : ℕ) → PutsLike {A = Unit {0}} given xs had mid (Ok tt)
    → PutsLike {A = Unit {0}} given ys mid has (Err (record { number = number; done = done })) → done ≤ length ys
    → PutsLike {A = Unit {0}} given (xs ++ (ys ++ zs)) had has (Err (record { number = number; done = length xs + done }))
puts_stop given xs ys zs had mid has number done p q few =
    let all : take (length xs + done) (xs ++ (ys ++ zs)) ≡ xs ++ take done ys =
    take-append-add xs (ys ++ zs) done ∙ ap (λ (is : List Item). xs ++ is) (take-append-le done ys zs few) in record {
      put = p.put ++ q.put;
      like = subst (AllZip IsLike (p.put ++ q.put)) (sym all) (like_both p.put q.put xs (take done ys) p.like q.like);
      same = λ g. (λ i. p.same g i ++ q.same g i) ∙ sym all;
      more = more_behind p.put q.put had mid has p.more q.more;
    }

-- ---- files that were made once more together

like_put : {A : Type 0} (r : Result A Stop) (xs ys : List Item) → AllZip IsLike xs ys → AllZip IsLike (items_put r xs) (items_put r ys)
like_put (Ok a) xs ys like = like
like_put (Err stop) xs ys like = like_take stop.done xs ys like

-- what a sink took of the files that were made is like what it was to take
pub put_of : {A : Type 0} (given : Type 0) (made items : List Item) (had has : Option (List Item)) (r : Result A Stop) → AllZip IsLike made items → (given → made ≡ items)
    → HasMore (items_put r made) had has → PutsLike given items had has r
put_of given made items had has r like same more = record {
  put = items_put r made;
  like = like_put r made items like;
  same = λ g. ap (items_put r) (same g);
  more = more;
}

-- a stop of the sink among them is one among those
pub stop_of_sink : (made items : List Item) (stop : Stop) → AllZip IsLike made items → IsStopBelow (length made) stop → IsStopAgain (length items) stop
stop_of_sink made items stop like below = record {
  number = elim below.number [ inl one ↦ inl one | inr eighty ↦ inr (inl eighty) ];
  within = subst (λ (n : ℕ). stop.done < n) (like_length made items like) below.within;
}

pub stops_of_sink : {A : Type 0} (made items : List Item) (r : Result A Stop) → AllZip IsLike made items → IfErr r (IsStopBelow (length made)) → IfErr r (IsStopAgain (length items))
stops_of_sink made items (Ok a) like below = tt
stops_of_sink made items (Err stop) like below = stop_of_sink made items stop like below

-- only a failed drive is 70
pub again_at_70 : (fault : AgainFault) → again_number fault ≡ 70 → fault ≡ again.Failed
again_at_70 again.Memory is = absurd (omega (arith, is))
again_at_70 again.Failed is = refl
again_at_70 again.Changed is = absurd (omega (arith, is))

-- only a changed volume is 72
pub again_at_72 : (fault : AgainFault) → again_number fault ≡ 72 → fault ≡ again.Changed
again_at_72 again.Memory is = absurd (omega (arith, is))
again_at_72 again.Failed is = absurd (omega (arith, is))
again_at_72 again.Changed is = refl

-- no file was made once more
pub stop_of_again : (items : List Item) (fault : AgainFault) → 0 < length items → IsStopAgain (length items) (record { number = again_number fault; done = 0 })
stop_of_again items again.Memory some = record { number = inl refl; within = some }
stop_of_again items again.Failed some = record { number = inr (inr (inl refl)); within = some }
stop_of_again items again.Changed some = record { number = inr (inr (inr refl)); within = some }

pub put_none : {A : Type 0} (given : Type 0) (items : List Item) (has : Option (List Item)) (number : ℕ) → PutsLike {A = A} given items has has (Err (record { number = number; done = 0 }))
put_none given items has number = record { put = []; like = tt; same = λ _. refl; more = none_more has }

-- what is put if less has to be given
pub puts_if : {A : Type 0} (given less : Type 0) (items : List Item) (had has : Option (List Item)) (r : Result A Stop) → (given → less) → PutsLike less items had has r
    → PutsLike given items had has r
puts_if given less items had has r so puts = record { put = puts.put; like = puts.like; same = λ g. puts.same (so g); more = puts.more }

-- a stop among the first outcomes is one among all
pub puts_fewer : (given less : Type 0) (os : List (FileKey × Outcome)) (place : ℕ) (had has : Option (List Item)) (stop : Stop) → (given → less)
    → IsStopAgain (length (items_in (take place os))) stop → PutsLike {A = Unit {0}} less (items_in (take place os)) had has (Err stop)
    → PutsLike {A = Unit {0}} given (items_in os) had has (Err stop)
puts_fewer given less os place had has stop so below puts =
    let e = taken_items os place stop.done (omega (arith, below.within)) in
    record { put = puts.put; like = subst (AllZip IsLike puts.put) (sym e) puts.like; same = λ g. puts.same (so g) ∙ sym e; more = puts.more }

-- all files before one that conflicts
pub puts_before : (given less : Type 0) (os : List (FileKey × Outcome)) (place files number : ℕ) (had has : Option (List Item)) → (given → less) → StandApart os place files
    → PutsLike {A = Unit {0}} less (items_in (take place os)) had has (Ok tt) → PutsLike {A = Unit {0}} given (items_in os) had has (Err (record { number = number; done = files }))
puts_before given less os place files number had has so stands puts =
    let e : take files (items_in os) ≡ items_in (take place os) =
    ap (λ (n : ℕ). take n (items_in os)) stands.many ∙ taken_items os place (length (items_in (take place os))) (omega arith) ∙ take-length (items_in (take place os)) in
    record { put = puts.put; like = subst (AllZip IsLike puts.put) (sym e) puts.like; same = λ g. puts.same (so g) ∙ sym e; more = puts.more }

-- ---- the files among outcomes

-- their number is that of the totals
pub files_counted : (rs : List Restored) → (totals_of rs).files ≡ length (items_of rs)
unfolding totals_of
files_counted rs = counted rs

-- ---- outcomes that come next

pub taken_few : {X : Type 0} (n : ℕ) (xs : List X) → length (take n xs) ≤ length xs
taken_few zero xs = omega arith
taken_few (suc n) [] = omega arith
taken_few (suc n) (x ∷ xs) = let few = taken_few n xs in omega (arith, few)

-- as many as there are in the next window
pub window_len : {X : Type 0} (place n : ℕ) (xs window : List X) → window ≡ take n (drop place xs) → n ≤ length (drop place xs) → length window ≡ n
window_len place n xs window is few = ap length is ∙ length-take-le n (drop place xs) few

-- those up to it and those in it
pub taken_window : {X : Type 0} (place n : ℕ) (xs window : List X) → window ≡ take n (drop place xs) → n ≤ length (drop place xs)
    → take (place + length window) xs ≡ take place xs ++ window
taken_window place n xs window is few =
    ap (λ (k : ℕ). take (place + k) xs) (window_len place n xs window is few) ∙ take-add place n xs ∙ ap (λ (ys : List _). take place xs ++ ys) (sym is)

-- their files
pub items_window : (place n : ℕ) (os window : List (FileKey × Outcome)) → window ≡ take n (drop place os) → n ≤ length (drop place os)
    → items_in (take (place + length window) os) ≡ items_in (take place os) ++ items_in window
items_window place n os window is few = ap items_in (taken_window place n os window is few) ∙ items_of_both (take place os) window

-- and all files
pub items_around : (place n : ℕ) (os window : List (FileKey × Outcome)) → window ≡ take n (drop place os) → n ≤ length (drop place os)
    → items_in os ≡ items_in (take place os) ++ (items_in window ++ items_in (drop (place + length window) os))
items_around place n os window is few =
    ap items_in (sym (take-append-drop (place + length window) os)) ∙ items_of_both (take (place + length window) os) (drop (place + length window) os)
    ∙ ap (λ (is : List Item). is ++ items_in (drop (place + length window) os)) (items_window place n os window is few)
    ∙ append_assoc (items_in (take place os)) (items_in window) (items_in (drop (place + length window) os))

-- ---- a file that is put alone

-- a file whose bytes are others with the same digest
like_item : (item : Item) (bytes : List ℕ) → AreAlike bytes item.bytes → IsLike (with_bytes item bytes) item
like_item item bytes alike = record { path = refl; kind = refl; stat = refl; link = refl; skipped = refl; bytes = alike }

-- a file like it was put
pub put_alike : (given : Type 0) (item : Item) (had has : Option (List Item)) → PutsAlike given item had has → PutsLike {A = Unit {0}} given (item ∷ []) had has (Ok tt)
put_alike given item had has puts = record {
  put = with_bytes item puts.bytes ∷ [];
  like = (like_item item puts.bytes puts.alike, tt);
  same = λ g. ap (λ (bytes : List ℕ). with_bytes item bytes ∷ []) (puts.same g);
  more = puts.more;
}

-- or nothing
pub none_alike : (given : Type 0) (items : List Item) (had has : Option (List Item)) (number : ℕ) → has ≡ had
    → PutsLike {A = Unit {0}} given items had has (Err (record { number = number; done = 0 }))
none_alike given items had has number same = record {
  put = [];
  like = tt;
  same = λ _. refl;
  more = subst (λ (later : Option (List Item)). HasMore [] had later) (sym same) (none_more had);
}

-- the stop after fewer files than this number
pub stops_alone : (fault : PartsFault) (done count : ℕ) → done < count → IsStopAgain count (record { number = parts_number fault; done = done })
stops_alone parts.Memory done count few = record { number = inl refl; within = few }
stops_alone parts.Fault done count few = record { number = inr (inl refl); within = few }
stops_alone parts.NoDriveLeft done count few = record { number = inr (inr (inl refl)); within = few }
stops_alone parts.Changed done count few = record { number = inr (inr (inr refl)); within = few }

-- only a sink that failed is 80
pub parts_at_80 : (fault : PartsFault) → parts_number fault ≡ 80 → fault ≡ parts.Fault
parts_at_80 parts.Memory is = absurd (omega (arith, is))
parts_at_80 parts.Fault is = refl
parts_at_80 parts.NoDriveLeft is = absurd (omega (arith, is))
parts_at_80 parts.Changed is = absurd (omega (arith, is))

-- only a lost drive is 70
pub parts_at_70 : (fault : PartsFault) → parts_number fault ≡ 70 → fault ≡ parts.NoDriveLeft
parts_at_70 parts.Memory is = absurd (omega (arith, is))
parts_at_70 parts.Fault is = absurd (omega (arith, is))
parts_at_70 parts.NoDriveLeft is = refl
parts_at_70 parts.Changed is = absurd (omega (arith, is))

-- only a changed volume is 72
pub parts_at_72 : (fault : PartsFault) → parts_number fault ≡ 72 → fault ≡ parts.Changed
parts_at_72 parts.Memory is = absurd (omega (arith, is))
parts_at_72 parts.Fault is = absurd (omega (arith, is))
parts_at_72 parts.NoDriveLeft is = absurd (omega (arith, is))
parts_at_72 parts.Changed is = refl

-- the same, if what gives these files gives less
puts_given : {A : Type 0} (given less : Type 0) (items : List Item) (had has : Option (List Item)) (result : Result A Stop) → (given → less) → PutsLike less items had has result
    → PutsLike given items had has result
puts_given given less items had has result so puts = record { put = puts.put; like = puts.like; same = λ g. puts.same (so g); more = puts.more }

-- a window of one file
pub puts_window : {A : Type 0} (many : RereadingMany) (gathered : Gathered) (key : FileKey) (item : Item) (window : List (FileKey × Outcome)) (had has : Option (List Item)) (result : Result A Stop)
    → window ≡ (key, File item) ∷ [] → PutsLike (GivesItem many gathered.hits key item) (item ∷ []) had has result
    → PutsLike (CanMake many gathered (map restored window)) (items_in window) had has result
puts_window many gathered key item window had has result is puts =
    subst (λ (os : List (FileKey × Outcome)). PutsLike (CanMake many gathered (map restored os)) (items_in os) had has result) (sym is)
    (puts_given (CanMake many gathered (map restored ((key, File item) ∷ []))) (GivesItem many gathered.hits key item) (item ∷ []) had has result (λ g. (g.0, g.1.0)) puts)

pub stops_window : {A : Type 0} (key : FileKey) (item : Item) (window : List (FileKey × Outcome)) (result : Result A Stop)
    → window ≡ (key, File item) ∷ [] → IfErr result (IsStopAgain 1) → IfErr result (IsStopAgain (length (items_in window)))
stops_window key item window result is stops = subst (λ (os : List (FileKey × Outcome)). IfErr result (IsStopAgain (length (items_in os)))) (sym is) stops

pub changed_window : {A : Type 0} (many : RereadingMany) (gathered : Gathered) (key : FileKey) (item : Item) (window : List (FileKey × Outcome)) (result : Result A Stop)
    → window ≡ (key, File item) ∷ [] → IfErr result (IsChangedOnly (GivesItem many gathered.hits key item))
    → IfErr result (IsChangedOnly (CanMake many gathered (map restored window)))
changed_window many gathered key item window result is changed =
    subst (λ (os : List (FileKey × Outcome)). IfErr result (IsChangedOnly (CanMake many gathered (map restored os)))) (sym is)
    (IfErr-weaker result _ _ (λ stop only at can. only at (can.0, can.1.0)) changed)

-- ---- two files that are put side by side

-- files like both were put
pub both_alike : (given : Type 0) (one other : Item) (had has : Option (List Item)) → PutsBoth given one other had has
    → PutsLike {A = Unit {0}} given (one ∷ other ∷ []) had has (Ok tt)
both_alike given one other had has puts = record {
  put = with_bytes one puts.first ∷ with_bytes other puts.second ∷ [];
  like = (like_item one puts.first puts.alike.0, (like_item other puts.second puts.alike.1, tt));
  same = λ g i. with_bytes one ((puts.same g).0 i) ∷ with_bytes other ((puts.same g).1 i) ∷ [];
  more = puts.more;
}

-- or one like the first alone
pub first_alike : (given : Type 0) (one other : Item) (had has : Option (List Item)) (number : ℕ) → PutsAlike given one had has
    → PutsLike {A = Unit {0}} given (one ∷ other ∷ []) had has (Err (record { number = number; done = 1 }))
first_alike given one other had has number puts = record {
  put = with_bytes one puts.bytes ∷ [];
  like = (like_item one puts.bytes puts.alike, tt);
  same = λ g. ap (λ (bytes : List ℕ). with_bytes one bytes ∷ []) (puts.same g);
  more = puts.more;
}

-- a window of two files
pub puts_two_window : {A : Type 0} (many : RereadingMany) (gathered : Gathered) (one other : KeyedItem) (window : List (FileKey × Outcome)) (had has : Option (List Item)) (result : Result A Stop)
    → window ≡ keyed one ∷ keyed other ∷ [] → PutsTwoAgain many gathered one other had has result
    → PutsLike (CanMake many gathered (map restored window)) (items_in window) had has result
puts_two_window many gathered one other window had has result is puts =
    subst (λ (os : List (FileKey × Outcome)). PutsLike (CanMake many gathered (map restored os)) (items_in os) had has result) (sym is)
    (puts_given (CanMake many gathered (map restored (keyed one ∷ keyed other ∷ []))) (GivesBoth many gathered.hits one.key other.key one.item.now other.item.now)
    (one.item.now ∷ other.item.now ∷ []) had has result (λ g. ((g.0, g.1.0), (g.0, g.1.1.0))) puts)

pub stops_two_window : {A : Type 0} (one other : KeyedItem) (window : List (FileKey × Outcome)) (result : Result A Stop)
    → window ≡ keyed one ∷ keyed other ∷ [] → IfErr result (IsStopAgain 2) → IfErr result (IsStopAgain (length (items_in window)))
stops_two_window one other window result is stops = subst (λ (os : List (FileKey × Outcome)). IfErr result (IsStopAgain (length (items_in os)))) (sym is) stops

pub changed_two_window : {A : Type 0} (many : RereadingMany) (gathered : Gathered) (one other : KeyedItem) (window : List (FileKey × Outcome)) (result : Result A Stop)
    → window ≡ keyed one ∷ keyed other ∷ [] → IfErr result (IsChangedOnly (GivesKeyed many gathered one other))
    → IfErr result (IsChangedOnly (CanMake many gathered (map restored window)))
changed_two_window many gathered one other window result is changed =
    subst (λ (os : List (FileKey × Outcome)). IfErr result (IsChangedOnly (CanMake many gathered (map restored os)))) (sym is)
    (IfErr-weaker result _ _ (λ stop only at can. only at ((can.0, can.1.0), (can.0, can.1.1.0))) changed)
