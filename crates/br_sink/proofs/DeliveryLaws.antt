-- Deliveries up to a file, and at it.
use Rattle.std.proofs.Common.{◌≡◌, ℕ, ◌+◌, ◌<◌, ◌≤◌, Bool, true, false, not, cond, List, [], ◌∷◌, ◌++◌, length, take, drop, map, refl, ap, sym, subst, ◌∙◌, arith, append_assoc, Option, Some, None, Result, Ok, Err, get_or, length-append, append-nil, add-zero, inl, inr}
use Rattle.std.specs.Prelude.{filter_map}
use Rattle.std.specs.List.{list_any}
use Rattle.std.proofs.Math.Seq.{take-append_seam, take-length}
use Rattle.std.proofs.lemmas.List.{take_more, take-append-drop, take-append-le}
use Rattle.br_model.specs.Answer.{◌>>=◌, IsRefusal}
use Rattle.br_model.specs.Name.{FileKey}
use Rattle.br_model.specs.File as model
use Rattle.br_model.specs.Delivery.{Stop, delivery, in_the_way, item_of, put_behind}
use Rattle.br_model.specs.Manifest.{totals_of}
use Rattle.br_model.specs.Restored.{Restored}
use Rattle.br_join.specs.Outcome.{restored}
use Rattle.br_join.specs.declared.item.Outcome.{Outcome}
use Rattle.br_join.specs.declared.item.Outcome.TheVariants.{File, Fault}
use Rattle.br_sink.specs.Delivery.{AreApart, IsStopBelow, IsStopIn, StandApart, items_in, stop_cause}
use Rattle.br_sink.specs.Fault.{fault_number}
use Rattle.br_sink.specs.Sink.{HasMore}
use Rattle.br_sink.specs.declared.fault.SinkFault.{SinkFault}
use Rattle.br_sink.specs.declared.fault.SinkFault.TheVariants.{Memory, Fault as Failed}

-- ---- paths put one after another

-- the paths of files before other paths, the last first
abbrev pub paths_behind : List (List ℕ) → List model.Item → List (List ℕ)
paths_behind paths [] = paths
paths_behind paths (item ∷ more) = paths_behind (item.path ∷ paths) more

pub length_behind : (paths : List (List ℕ)) (items : List model.Item) → length (paths_behind paths items) ≡ length paths + length items
length_behind paths [] = sym (add-zero (length paths))
length_behind paths (item ∷ more) = length_behind (item.path ∷ paths) more ∙ (omega arith)

pub behind_one_more : (paths : List (List ℕ)) (items : List model.Item) (item : model.Item)
    → paths_behind paths (items ++ item ∷ []) ≡ item.path ∷ paths_behind paths items
behind_one_more paths [] item = refl
behind_one_more paths (first ∷ items) item = behind_one_more (first.path ∷ paths) items item

abbrev stop_at : List (List ℕ) → Stop
stop_at paths = record { number = 81; done = length paths }

pub free_first : (b : Bool) (s : Stop) (r : Result (Unit {0}) Stop) → cond b (Err s) r ≡ Ok tt → (b ≡ false) × (r ≡ Ok tt)
free_first true s r h = absurd cc
free_first false s r h = (refl, h)

-- files after others that are apart
pub put_more : (paths : List (List ℕ)) (items more : List model.Item) → put_behind paths items ≡ Ok tt
    → put_behind paths (items ++ more) ≡ put_behind (paths_behind paths items) more
unfolding put_behind
put_more paths [] more apart = refl
put_more paths (item ∷ items) more apart =
    let first = free_first (list_any (in_the_way item.path) paths) (stop_at paths) (put_behind (item.path ∷ paths) items) apart in
    ap (λ b. cond b (Err (stop_at paths)) (put_behind (item.path ∷ paths) (items ++ more))) first.0 ∙ put_more (item.path ∷ paths) items more first.1

-- a free file after those
pub apart_one_more : (items : List model.Item) (item : model.Item) → AreApart items → list_any (in_the_way item.path) (paths_behind [] items) ≡ false
    → AreApart (items ++ item ∷ [])
unfolding put_behind
apart_one_more items item apart free =
    put_more [] items (item ∷ []) apart ∙ ap (λ b. cond b (Err (stop_at (paths_behind [] items))) (Ok tt)) free

-- a conflicting file after those
pub stopped_at : (items more : List model.Item) (item : model.Item) → AreApart items → list_any (in_the_way item.path) (paths_behind [] items) ≡ true
    → put_behind [] (items ++ item ∷ more) ≡ Err (record { number = 81; done = length items })
unfolding put_behind
stopped_at items more item apart way =
    put_more [] items (item ∷ more) apart
    ∙ ap (λ b. cond b (Err (stop_at (paths_behind [] items))) (put_behind (item.path ∷ paths_behind [] items) more)) way
    ∙ ap (λ (n : ℕ). Err (record { number = 81; done = n })) (length_behind [] items ∙ (omega arith))

-- ---- the files among outcomes

pub items_of_both : (os ps : List (FileKey × Outcome)) → items_in (os ++ ps) ≡ items_in os ++ items_in ps
items_of_both [] ps = refl
items_of_both ((k, File item) ∷ os) ps = ap (λ (is : List model.Item). item ∷ is) (items_of_both os ps)
items_of_both ((k, Fault number stream) ∷ os) ps = items_of_both os ps

-- one outcome more
pub items_one_more : (os : List (FileKey × Outcome)) (i : ℕ) (o : FileKey × Outcome) → i < length os → get_or os i o ≡ o
    → items_in (take (i + 1) os) ≡ items_in (take i os) ++ items_in (o ∷ [])
items_one_more os i o less is =
    ap items_in (take_more os i o less ∙ ap (λ (p : FileKey × Outcome). take i os ++ p ∷ []) is) ∙ items_of_both (take i os) (o ∷ [])

-- the files before an outcome, its own, and those after it
pub items_around : (os : List (FileKey × Outcome)) (i : ℕ) (o : FileKey × Outcome) → i < length os → get_or os i o ≡ o
    → items_in os ≡ items_in (take (i + 1) os) ++ items_in (drop (i + 1) os)
items_around os i o less is = ap items_in (sym (take-append-drop (i + 1) os)) ∙ items_of_both (take (i + 1) os) (drop (i + 1) os)

-- a file is one more, and a fault none
pub items_file : (o : FileKey × Outcome) (item : model.Item) → o.1 ≡ File item → items_in (o ∷ []) ≡ item ∷ []
items_file o item is = ap (λ (outcome : Outcome). items_in ((o.0, outcome) ∷ [])) is

pub items_fault : (o : FileKey × Outcome) (number stream : ℕ) → o.1 ≡ Fault number stream → items_in (o ∷ []) ≡ []
items_fault o number stream is = ap (λ (outcome : Outcome). items_in ((o.0, outcome) ∷ [])) is

-- the files around that of an outcome
pub items_at : (os : List (FileKey × Outcome)) (i : ℕ) (o : FileKey × Outcome) (item : model.Item) → i < length os → o ≡ get_or os i o → o.1 ≡ File item
    → items_in os ≡ items_in (take i os) ++ item ∷ items_in (drop (i + 1) os)
items_at os i o item less is file =
    items_around os i o less (sym is)
    ∙ ap (λ (is : List model.Item). is ++ items_in (drop (i + 1) os)) (items_one_more os i o less (sym is) ∙ ap (λ (is : List model.Item). items_in (take i os) ++ is) (items_file o item file))
    ∙ append_assoc (items_in (take i os)) (item ∷ []) (items_in (drop (i + 1) os))

-- ---- what the sink has

pub none_more : (has : Option (List model.Item)) → HasMore [] has has
none_more None = tt
none_more (Some items) = sym (append-nil items)

pub more_behind : (items more : List model.Item) (first second third : Option (List model.Item)) → HasMore items first second → HasMore more second third
    → HasMore (items ++ more) first third
more_behind items more None None None a b = tt
more_behind items more (Some first) (Some second) (Some third) a b = b ∙ ap (λ (is : List model.Item). is ++ more) a ∙ append_assoc first items more
more_behind items more None None (Some third) a b = b
more_behind items more None (Some second) third a b = absurd a
more_behind items more (Some first) None third a b = absurd a
more_behind items more (Some first) (Some second) None a b = b

-- ---- where it stops and where it ends

first_part : (paths : List (List ℕ)) (items more : List model.Item) → put_behind paths (items ++ more) ≡ Ok tt → put_behind paths items ≡ Ok tt
unfolding put_behind
first_part paths [] more apart = refl
first_part paths (item ∷ items) more apart =
    let first = free_first (list_any (in_the_way item.path) paths) (stop_at paths) (put_behind (item.path ∷ paths) (items ++ more)) apart in
    ap (λ b. cond b (Err (stop_at paths)) (put_behind (item.path ∷ paths) items)) first.0 ∙ first_part (item.path ∷ paths) items more first.1

-- the first of files that are apart are apart
pub apart_taken : (items : List model.Item) (n : ℕ) → AreApart items → AreApart (take n items)
apart_taken items n apart = first_part [] (take n items) (drop n items) (ap (put_behind []) (take-append-drop n items) ∙ apart)

-- a file more than those before it
pub some_behind : (items before rest : List model.Item) (item : model.Item) → items ≡ before ++ item ∷ rest → length before < length items
some_behind items before rest item around = let e = ap length around ∙ length-append before (item ∷ rest) in omega (arith, e)

-- a stop of a sink that puts one file after another
pub one_stops : (items before rest : List model.Item) (item : model.Item) (fault : SinkFault) → items ≡ before ++ item ∷ rest
    → IsStopBelow (length items) (record { number = fault_number fault; done = length before })
one_stops items before rest item Memory around = record { number = inl refl; within = some_behind items before rest item around }
one_stops items before rest item Failed around = record { number = inr refl; within = some_behind items before rest item around }

-- and it has the files before
pub one_has : (items before rest : List model.Item) (item : model.Item) (first second third : Option (List model.Item)) → items ≡ before ++ item ∷ rest
    → HasMore before first second → third ≡ second → HasMore (take (length before) items) first third
one_has items before rest item first second third around has same =
    let taken : take (length before) items ≡ before = ap (take (length before)) around ∙ take-append_seam before (item ∷ rest) in
    subst (λ (is : List model.Item). HasMore is first third) (sym taken) (subst (HasMore before first) (sym same) has)

-- 80 is the number of its own fault alone
pub fault_at_80 : (fault : SinkFault) → fault_number fault ≡ 80 → fault ≡ Failed
fault_at_80 Memory is = absurd (omega (arith, is))
fault_at_80 Failed is = refl

pub not_false : (a b : Bool) → a ≡ not b → a ≡ false → b ≡ true
not_false a true is h = refl
not_false a false is h = absurd cc

pub not_true : (a b : Bool) → a ≡ not b → a ≡ true → b ≡ false
not_true a true is h = absurd cc
not_true a false is h = refl

-- the outcomes up to a file whose path conflicts
pub stand_before : (os : List (FileKey × Outcome)) (place files : ℕ) (item : model.Item) (rest : List model.Item)
    → place < length os → files ≡ length (items_in (take place os)) → items_in os ≡ items_in (take place os) ++ item ∷ rest → AreApart (items_in (take place os))
    → list_any (in_the_way item.path) (paths_behind [] (items_in (take place os))) ≡ true → StandApart os place files
stand_before os place files item rest less many around apart way = record {
  inside = omega (arith, less);
  many = many;
  apart = apart;
  within = λ _. let w = some_behind (items_in os) (items_in (take place os)) rest item around in omega (arith, many, w);
  next = λ _.
      ap (put_behind []) around ∙ stopped_at (items_in (take place os)) rest item apart way
      ∙ ap (λ (n : ℕ). Err (record { number = 81; done = n })) (sym many);
}

-- one file is apart
pub one_apart : (items : List model.Item) → AreApart (take 1 items)
unfolding put_behind
one_apart [] = refl
one_apart (item ∷ items) = refl

pub ends_apart : AreApart []
unfolding put_behind
ends_apart = refl

-- no file was put, since memory ran out
pub memory_stop : (items : List model.Item) → 0 < length items → IsStopIn items (record { number = 1; done = 0 })
memory_stop [] some = absurd (omega (arith, some))
memory_stop (item ∷ items) some = record {
  number = inl refl;
  within = some;
  before = ends_apart;
  at_it = λ _. one_apart (item ∷ items);
}

-- the files of the first outcomes are the first files
pub taken_items : (os : List (FileKey × Outcome)) (place n : ℕ) → n ≤ length (items_in (take place os)) → take n (items_in os) ≡ take n (items_in (take place os))
taken_items os place n few =
    let front : List model.Item = items_in (take place os) in
    ap (take n) (ap items_in (sym (take-append-drop place os)) ∙ items_of_both (take place os) (drop place os)) ∙ take-append-le n front (items_in (drop place os)) few

-- of all outcomes there are no fewer files
pub fewer_items : (os : List (FileKey × Outcome)) (place : ℕ) → length (items_in (take place os)) ≤ length (items_in os)
fewer_items os place =
    let e = ap length (ap items_in (sym (take-append-drop place os)) ∙ items_of_both (take place os) (drop place os)) ∙ length-append (items_in (take place os)) (items_in (drop place os)) in
    omega (arith, e)

module _ (os : List (FileKey × Outcome)) (place files : ℕ) (stands : StandApart os place files) where
  -- a stop of the sink is one of the delivery
  pub stopped_below : (stop : Stop) → IsStopBelow (length (items_in (take place os))) stop → IsStopIn (items_in os) stop
  stopped_below stop below =
      let fewer = fewer_items os place in
      let apart_at : (n : ℕ) → n ≤ length (items_in (take place os)) → AreApart (take n (items_in os)) =
      λ n few. subst AreApart (sym (taken_items os place n few)) (apart_taken (items_in (take place os)) n stands.apart) in record {
        number = elim below.number [ inl one ↦ inl one | inr eighty ↦ inr (inl eighty) ];
        within = omega (arith, below.within, fewer);
        before = apart_at stop.done (omega (arith, below.within));
        at_it = λ _. apart_at (stop.done + 1) (omega (arith, below.within));
      }

  -- the sink has as many of all files
  pub stopped_has : (stop : Stop) (first second : Option (List model.Item)) → IsStopBelow (length (items_in (take place os))) stop
      → HasMore (take stop.done (items_in (take place os))) first second → HasMore (take stop.done (items_in os)) first second
  stopped_has stop first second below has =
      subst (λ (is : List model.Item). HasMore is first second) (sym (taken_items os place stop.done (omega (arith, below.within)))) has

  -- the stop at the next file
  pub in_the_way_has : (first second : Option (List model.Item)) → HasMore (items_in (take place os)) first second → HasMore (take files (items_in os)) first second
  in_the_way_has first second has =
      subst (λ (is : List model.Item). HasMore is first second) (sym (files_taken)) has
    where
      files_taken : take files (items_in os) ≡ items_in (take place os)
      files_taken =
          ap (λ (n : ℕ). take n (items_in os)) stands.many ∙ taken_items os place (length (items_in (take place os))) (omega arith)
          ∙ take-length (items_in (take place os))

  pub in_the_way_is : place < length os → IsStopIn (items_in os) (record { number = 81; done = files })
  in_the_way_is more = record {
    number = inr (inr refl);
    within = stands.within more;
    before = subst AreApart (sym (taken_items os place files (omega (arith, stands.many)))) (apart_taken (items_in (take place os)) files stands.apart);
    at_it = λ other. absurd (other refl);
  }

-- the stop at a file whose path conflicts is the model's
pub way_refused : (rs : List Restored) (files : ℕ) → put_behind [] (filter_map item_of rs) ≡ Err (record { number = 81; done = files })
    → IsRefusal (stop_cause (record { number = 81; done = files })) (delivery rs)
unfolding delivery
way_refused rs files stops = ap (λ (r : Result (Unit {0}) Stop). r >>= (λ _. Ok (totals_of rs))) stops

-- and so is the end
pub delivered : (os : List (FileKey × Outcome)) → AreApart (items_in os) → delivery (map restored os) ≡ Ok (totals_of (map restored os))
unfolding delivery
delivered os apart = ap (λ (r : Result (Unit {0}) Stop). r >>= (λ _. Ok (totals_of (map restored os)))) apart
