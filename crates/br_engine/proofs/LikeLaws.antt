-- Files that differ at most in bytes with the same digest: they have one manifest, and one delivery.
use Rattle.std.proofs.Common.{◌≡◌, ◌<◌, ◌+◌, ℕ, zero, suc, Bool, cond, List, [], ◌∷◌, ◌++◌, length, map, take, drop, Result, Ok, Err, refl, ap, sym, subst, ◌∙◌}
use Rattle.std.specs.Prelude.{◌&&◌, codes, count_by, decimal, flat_map, is_ok, not, sum_by}
use Rattle.std.specs.List.{AllZip, join_with_byte, list_any}
use Rattle.std.proofs.lemmas.List.Sums.{sum_by-cons}
use Rattle.br_model.specs.Attribute.{stat_numbers}
use Rattle.br_model.specs.Delivery.{Stop, delivery, in_the_way, put_behind}
use Rattle.br_model.specs.File.{Fault, Item, Outcome}
use Rattle.br_model.specs.Manifest.{file_line, item_fields, key_fields, manifest, outcome_fields, skipped_in, totals_of}
use Rattle.br_model.specs.Name.{FileKey}
use Rattle.br_model.specs.Restored.{Restored}
use Rattle.br_model.specs.Text.{escaped, hexadecimal, line, signed_decimal}
use Rattle.br_reread_files.specs.Again.{IsLike}
use Rattle.br_engine.specs.DeliveredAgain.{IsFileLike, IsOutcomeLike}
use Rattle.br_engine.specs.Delivering.{items_of}
use Rattle.br_engine.specs.Outputs.{are_files}
use Rattle.br_engine.specs.Stopping.{IsRestoreStop}

like_itself : (item : Item) → IsLike item item
like_itself item = record { path = refl; kind = refl; stat = refl; link = refl; skipped = refl; bytes = (refl, refl) }

file_itself : (r : Restored) → IsFileLike r r
file_itself r = (refl, go r.outcome)
  where
    go : (o : Outcome) → IsOutcomeLike o o
    go (Ok item) = like_itself item
    go (Err f) = refl

pub all_themselves : (rs : List Restored) → AllZip IsFileLike rs rs
all_themselves [] = tt
all_themselves (r ∷ rs) = (file_itself r, all_themselves rs)

-- ---- the manifest

same_fields : (a b : Item) → IsLike a b → item_fields a ≡ item_fields b
same_fields a b like i =
    decimal (like.kind i) ∷ escaped (like.path i) ∷ join_with_byte 44 (map signed_decimal (stat_numbers (like.stat i)))
    ∷ (61 ∷ escaped (like.link i)) ∷ decimal (like.bytes.0 i) ∷ hexadecimal (like.bytes.1 i) ∷ []

same_outcome_fields : (j k : FileKey) (a b : Outcome) → j ≡ k → IsOutcomeLike a b → outcome_fields j a ≡ outcome_fields k b
same_outcome_fields j k (Ok a) (Ok b) e like = λ i. codes "F" ∷ key_fields (e i) ++ same_fields a b like i
same_outcome_fields j k (Err f) (Err g) e like = λ i. outcome_fields (e i) (Err (like i))
same_outcome_fields j k (Ok a) (Err g) e like = absurd like
same_outcome_fields j k (Err f) (Ok b) e like = absurd like

same_line : (r o : Restored) → IsFileLike r o → file_line r ≡ file_line o
same_line r o like = ap (λ (fields : List (List ℕ)). line (join_with_byte 32 fields)) (same_outcome_fields r.key o.key r.outcome o.outcome like.0 like.1)

same_lines : (rs os : List Restored) → AllZip IsFileLike rs os → flat_map file_line rs ≡ flat_map file_line os
same_lines [] [] like = refl
same_lines [] (o ∷ os) like = absurd like
same_lines (r ∷ rs) [] like = absurd like
same_lines (r ∷ rs) (o ∷ os) like = λ i. same_line r o like.0 i ++ same_lines rs os like.1 i

same_ok : (r o : Restored) → IsFileLike r o → is_ok r.outcome ≡ is_ok o.outcome
same_ok r o like = go r.outcome o.outcome like.1
  where
    go : (a b : Outcome) → IsOutcomeLike a b → is_ok a ≡ is_ok b
    go (Ok a) (Ok b) l = refl
    go (Err f) (Err g) l = refl
    go (Ok a) (Err g) l = absurd l
    go (Err f) (Ok b) l = absurd l

same_skipped : (r o : Restored) → IsFileLike r o → skipped_in r ≡ skipped_in o
same_skipped r o like = go r o r.outcome o.outcome refl refl like.1
  where
    go : (r o : Restored) (a b : Outcome) → r.outcome ≡ a → o.outcome ≡ b → IsOutcomeLike a b → skipped_in r ≡ skipped_in o
    go r o (Ok a) (Ok b) e f l = rw (e, f) l.skipped
    go r o (Err x) (Err y) e f l = rw (e, f) refl
    go r o (Ok a) (Err y) e f l = absurd l
    go r o (Err x) (Ok b) e f l = absurd l

same_sum : (f : Restored → ℕ) → ((r o : Restored) → IsFileLike r o → f r ≡ f o) → (rs os : List Restored) → AllZip IsFileLike rs os → sum_by f rs ≡ sum_by f os
same_sum f each [] [] like = refl
same_sum f each [] (o ∷ os) like = absurd like
same_sum f each (r ∷ rs) [] like = absurd like
same_sum f each (r ∷ rs) (o ∷ os) like = sum_by-cons f r rs ∙ (λ i. each r o like.0 i + same_sum f each rs os like.1 i) ∙ sym (sum_by-cons f o os)

same_count : (t : Bool → Bool) (rs os : List Restored) → AllZip IsFileLike rs os
    → count_by (λ (r : Restored). t (is_ok r.outcome)) rs ≡ count_by (λ (r : Restored). t (is_ok r.outcome)) os
same_count t rs os like = same_sum (λ (r : Restored). cond (t (is_ok r.outcome)) 1 0) (λ r o one. ap (λ (b : Bool). cond (t b) 1 0) (same_ok r o one)) rs os like

pub same_totals : (rs os : List Restored) → AllZip IsFileLike rs os → totals_of rs ≡ totals_of os
unfolding totals_of
same_totals rs os like = λ i. record { files = same_count (λ b. b) rs os like i; faults = same_count not rs os like i; skipped = same_sum skipped_in same_skipped rs os like i }

pub same_manifest : (rs os : List Restored) → AllZip IsFileLike rs os → manifest rs ≡ manifest os
unfolding manifest
same_manifest rs os like = rw (same_lines rs os like, same_totals rs os like) refl

pub same_files : (rs os : List Restored) → AllZip IsFileLike rs os → are_files rs ≡ are_files os
same_files [] [] like = refl
same_files [] (o ∷ os) like = absurd like
same_files (r ∷ rs) [] like = absurd like
same_files (r ∷ rs) (o ∷ os) like = λ i. same_ok r o like.0 i && same_files rs os like.1 i

-- ---- the delivery

items_like : (rs os : List Restored) → AllZip IsFileLike rs os → AllZip IsLike (items_of rs) (items_of os)
items_like [] [] like = tt
items_like [] (o ∷ os) like = absurd like
items_like (r ∷ rs) [] like = absurd like
items_like (r ∷ rs) (o ∷ os) like = go r o r.outcome o.outcome refl refl like.0.1 (items_like rs os like.1)
  where
    go : (r o : Restored) (a b : Outcome) → r.outcome ≡ a → o.outcome ≡ b → IsOutcomeLike a b → AllZip IsLike (items_of rs) (items_of os) → AllZip IsLike (items_of (r ∷ rs)) (items_of (o ∷ os))
    go r o (Ok a) (Ok b) e f l rest = rw (e, f) (l, rest)
    go r o (Err x) (Err y) e f l rest = rw (e, f) rest
    go r o (Ok a) (Err y) e f l rest = absurd l
    go r o (Err x) (Ok b) e f l rest = absurd l

same_putting : (paths : List (List ℕ)) (xs ys : List Item) → AllZip IsLike xs ys → put_behind paths xs ≡ put_behind paths ys
unfolding put_behind
same_putting paths [] [] like = refl
same_putting paths [] (y ∷ ys) like = absurd like
same_putting paths (x ∷ xs) [] like = absurd like
same_putting paths (x ∷ xs) (y ∷ ys) like =
    let rest = same_putting (x.path ∷ paths) xs ys like.1 in
    let p = like.0.path in
    ap (λ (r : Result (Unit {0}) Stop). put_one x.path r) rest ∙ ap (λ (q : List ℕ). put_one q (put_behind (q ∷ paths) ys)) p
  where
    put_one : List ℕ → Result (Unit {0}) Stop → Result (Unit {0}) Stop
    put_one path rest = cond (list_any (in_the_way path) paths) (Err (record { number = 81; done = length paths })) rest

pub like_take : (n : ℕ) (xs ys : List Item) → AllZip IsLike xs ys → AllZip IsLike (take n xs) (take n ys)
like_take zero xs ys like = tt
like_take (suc n) [] [] like = tt
like_take (suc n) [] (y ∷ ys) like = absurd like
like_take (suc n) (x ∷ xs) [] like = absurd like
like_take (suc n) (x ∷ xs) (y ∷ ys) like = (like.0, like_take n xs ys like.1)

pub like_length : (xs ys : List Item) → AllZip IsLike xs ys → length xs ≡ length ys
like_length [] [] like = refl
like_length [] (y ∷ ys) like = absurd like
like_length (x ∷ xs) [] like = absurd like
like_length (x ∷ xs) (y ∷ ys) like = ap suc (like_length xs ys like.1)

pub same_delivery : (rs os : List Restored) → AllZip IsFileLike rs os → delivery rs ≡ delivery os
unfolding delivery
same_delivery rs os like = rw (same_putting [] (items_of rs) (items_of os) (items_like rs os like), same_totals rs os like) refl

pub same_stop : (rs os : List Restored) (stop : Stop) → AllZip IsFileLike rs os → IsRestoreStop (items_of os) stop → IsRestoreStop (items_of rs) stop
same_stop rs os stop like is =
    let each = items_like rs os like in
    record {
      number = is.number;
      within = subst (λ (n : ℕ). stop.done < n) (sym (like_length _ _ each)) is.within;
      before = same_putting [] _ _ (like_take stop.done _ _ each) ∙ is.before;
      at_it = λ other. same_putting [] _ _ (like_take (stop.done + 1) _ _ each) ∙ is.at_it other;
    }

-- ---- the files that were put, and those of before for the others

-- a file in the place of this one, if there is one; a fault stays
replaced : Restored → Outcome → List Item → (List Item → List Restored) → List Restored
replaced r (Err f) items more = r ∷ more items
replaced r (Ok item) [] more = r ∷ more []
replaced r (Ok item) (i ∷ items) more = record { key = r.key; outcome = Ok i } ∷ more items

-- files in the places of the first of these
pub with_items : List Restored → List Item → List Restored
with_items [] items = []
with_items (r ∷ rs) items = replaced r r.outcome items (with_items rs)

pub items_fault : (o : Restored) (os : List Restored) (f : Fault) → o.outcome ≡ Err f → items_of (o ∷ os) ≡ items_of os
items_fault o os f e = rw e refl

pub items_file : (o : Restored) (os : List Restored) (item : Item) → o.outcome ≡ Ok item → items_of (o ∷ os) ≡ item ∷ items_of os
items_file o os item e = rw e refl

with_fault : (o : Restored) (os : List Restored) (f : Fault) (items : List Item) → o.outcome ≡ Err f → with_items (o ∷ os) items ≡ o ∷ with_items os items
unfolding with_items replaced
with_fault o os f items e = rw e refl

with_last : (o : Restored) (os : List Restored) (item : Item) → o.outcome ≡ Ok item → with_items (o ∷ os) [] ≡ o ∷ with_items os []
unfolding with_items replaced
with_last o os item e = rw e refl

with_file : (o : Restored) (os : List Restored) (item i : Item) (items : List Item) → o.outcome ≡ Ok item
    → with_items (o ∷ os) (i ∷ items) ≡ record { key = o.key; outcome = Ok i } ∷ with_items os items
unfolding with_items replaced
with_file o os item i items e = rw e refl

with_none : (os : List Restored) → with_items os [] ≡ os
unfolding with_items
with_none [] = refl
with_none (o ∷ os) = go o.outcome refl (with_none os)
  where
    go : (a : Outcome) → o.outcome ≡ a → with_items os [] ≡ os → with_items (o ∷ os) [] ≡ o ∷ os
    go (Err f) e more = with_fault o os f [] e ∙ ap (λ (rs : List Restored). o ∷ rs) more
    go (Ok item) e more = with_last o os item e ∙ ap (λ (rs : List Restored). o ∷ rs) more

-- they are like these
pub with_like : (os : List Restored) (items : List Item) (n : ℕ) → AllZip IsLike items (take n (items_of os)) → AllZip IsFileLike (with_items os items) os
unfolding with_items
with_like [] items n like = tt
with_like (o ∷ os) items n like = go o.outcome refl items n like (λ items n like. with_like os items n like)
  where
    go : (a : Outcome) → o.outcome ≡ a → (items : List Item) (n : ℕ) → AllZip IsLike items (take n (items_of (o ∷ os)))
        → ((items : List Item) (n : ℕ) → AllZip IsLike items (take n (items_of os)) → AllZip IsFileLike (with_items os items) os)
        → AllZip IsFileLike (with_items (o ∷ os) items) (o ∷ os)
    go (Err f) e items n like more =
        subst (λ (rs : List Restored). AllZip IsFileLike rs (o ∷ os)) (sym (with_fault o os f items e))
        (file_itself o, more items n (subst (λ (is : List Item). AllZip IsLike items (take n is)) (items_fault o os f e) like))
    go (Ok item) e [] n like more = subst (λ (rs : List Restored). AllZip IsFileLike rs (o ∷ os)) (sym (with_none (o ∷ os))) (all_themselves (o ∷ os))
    go (Ok item) e (i ∷ items) zero like more = absurd like
    go (Ok item) e (i ∷ items) (suc n) like more =
        let l = subst (λ (is : List Item). AllZip IsLike (i ∷ items) (take (suc n) is)) (items_file o os item e) like in
        subst (λ (rs : List Restored). AllZip IsFileLike rs (o ∷ os)) (sym (with_file o os item i items e))
        ((refl, subst (λ (a : Outcome). IsOutcomeLike (Ok i) a) (sym e) l.0), more items n l.1)

-- the files of them are those, and after them the others of these
pub with_put : (os : List Restored) (items : List Item) (n : ℕ) → AllZip IsLike items (take n (items_of os))
    → items_of (with_items os items) ≡ items ++ drop (length items) (items_of os)
unfolding with_items
with_put [] [] n like = refl
with_put [] (i ∷ items) zero like = absurd like
with_put [] (i ∷ items) (suc n) like = absurd like
with_put (o ∷ os) items n like = go o.outcome refl items n like (λ items n like. with_put os items n like)
  where
    go : (a : Outcome) → o.outcome ≡ a → (items : List Item) (n : ℕ) → AllZip IsLike items (take n (items_of (o ∷ os)))
        → ((items : List Item) (n : ℕ) → AllZip IsLike items (take n (items_of os)) → items_of (with_items os items) ≡ items ++ drop (length items) (items_of os))
        → items_of (with_items (o ∷ os) items) ≡ items ++ drop (length items) (items_of (o ∷ os))
    go (Err f) e items n like more =
        ap items_of (with_fault o os f items e) ∙ items_fault o (with_items os items) f e
        ∙ more items n (subst (λ (is : List Item). AllZip IsLike items (take n is)) (items_fault o os f e) like)
        ∙ ap (λ (is : List Item). items ++ drop (length items) is) (sym (items_fault o os f e))
    go (Ok item) e [] n like more = ap items_of (with_none (o ∷ os))
    go (Ok item) e (i ∷ items) zero like more = absurd like
    go (Ok item) e (i ∷ items) (suc n) like more =
        let l = subst (λ (is : List Item). AllZip IsLike (i ∷ items) (take (suc n) is)) (items_file o os item e) like in
        ap items_of (with_file o os item i items e) ∙ ap (λ (is : List Item). i ∷ is) (more items n l.1)
        ∙ ap (λ (is : List Item). i ∷ items ++ drop (suc (length items)) is) (sym (items_file o os item e))

-- if they are the first files of these, nothing is replaced
pub with_same : (os : List Restored) (items : List Item) (n : ℕ) → items ≡ take n (items_of os) → with_items os items ≡ os
unfolding with_items
with_same [] items n same = refl
with_same (o ∷ os) items n same = go o.outcome refl items n same (λ items n same. with_same os items n same)
  where
    go : (a : Outcome) → o.outcome ≡ a → (items : List Item) (n : ℕ) → items ≡ take n (items_of (o ∷ os))
        → ((items : List Item) (n : ℕ) → items ≡ take n (items_of os) → with_items os items ≡ os) → with_items (o ∷ os) items ≡ o ∷ os
    go (Err f) e items n same more =
        with_fault o os f items e ∙ ap (λ (rs : List Restored). o ∷ rs) (more items n (same ∙ ap (take n) (items_fault o os f e)))
    go (Ok item) e [] n same more = with_none (o ∷ os)
    go (Ok item) e (i ∷ items) zero same more = absurd cc
    go (Ok item) e (i ∷ items) (suc n) same more =
        let both : i ∷ items ≡ item ∷ take n (items_of os) = same ∙ ap (take (suc n)) (items_file o os item e) in
        let first : i ≡ item = cc in
        let rest : items ≡ take n (items_of os) = cc in
        let okay : ◌≡◌ {A = Outcome} (Ok i) (Ok item) = ap Ok first in
        with_file o os item i items e ∙ (λ t. record { key = o.key; outcome = (okay ∙ sym e) t } ∷ more items n rest t)
