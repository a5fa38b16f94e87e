-- Joining fragments gives the records of which they are a cut, and no others.
use Rattle.std.proofs.Common.{◌≡◌, ℕ, zero, suc, ◌-◌, ◌<◌, Bool, true, false, not, ◌&&◌, cond, eqb, List, [], ◌∷◌, ◌++◌, length, Option, Some, None, Result, Ok, Err, refl, sym, ap, subst, ◌∙◌, inl, inr, ◌⊎◌, arith, append_assoc}
use Rattle.std.proofs.lemmas.Bool.{eqb-true, eqb-false, ltb-true, le-ltb, eq-eqb, and_parts, not-false}
use Rattle.std.proofs.lemmas.List.{append-nil, length-append, nil_from_length}
use Rattle.std.specs.Prelude.{ℤ, pos, negsuc, neg_ℤ, nat_abs}
use Rattle.std.specs.Int.{is_negative}
use Rattle.std.specs.List.{AllByRecursion}
use Rattle.br_model.specs.Answer.{◌>>=◌}
use Rattle.br_model.specs.Block.{Fragment}
use Rattle.br_model.specs.Record.{Record, GoOn, AreParts, IsCut, IsFragmentFor, Begun, with_fragment, still_open, given_out, join_from, join, JoinIsExact}
use Rattle.br_model.proofs.AnswerLaws.{bind_ok, ok_is, chosen, err_is_not_ok}

-- the rest of a record that is open, and then a cut
pub record GoesOn (b : Begun) (records : List Record) (fragments : List Fragment) : Type 0 where
  pub left : List ℕ
  pub parts : List Fragment
  pub others : List Fragment
  pub more : List Record
  pub fragments_are : fragments ≡ parts ++ others
  pub records_are : records ≡ record { index = b.index; stream = b.stream; bytes = b.bytes ++ left } ∷ more
  pub left_is : length left ≡ b.left
  pub go_on : GoOn b.index b.stream left parts
  pub cut : IsCut more others
  pub has_negation : b.stream ≡ 0 → ⊥

abbrev pub IsCutBehind : Option Begun → List Record → List Fragment → Type 0
IsCutBehind None records fragments = IsCut records fragments
IsCutBehind (Some b) records fragments = GoesOn b records fragments

-- a stream that is not negative, and one that is
pub not_negative : (z : ℤ) → is_negative z ≡ false → z ≡ pos (nat_abs z)
not_negative (pos n) e = refl
not_negative (negsuc n) e = absurd cc

pub negative : (z : ℤ) (s : ℕ) → is_negative z ≡ true → nat_abs z ≡ s → (z ≡ neg_ℤ (pos s)) × (s ≡ 0 → ⊥)
negative (pos n) s e h = absurd (omega (arith, ltb-true n 0 e))
negative (negsuc n) s e h = subst (λ (k : ℕ). (negsuc n ≡ neg_ℤ (pos k)) × (k ≡ 0 → ⊥)) h (refl, λ z. omega arith)

pub abs_pos : (z : ℤ) (n : ℕ) → z ≡ pos n → nat_abs z ≡ n
abs_pos z n e = ap nat_abs e

abbrev pub record_of : Begun → Record
record_of b = record { index = b.index; stream = b.stream; bytes = b.bytes }

-- a record is whole and given out, or stays open
unfoldable pub IsWhole : Begun → Type 0
IsWhole b = (b.left ≡ 0) × (still_open b ≡ None) × (given_out b ≡ record_of b ∷ [])

unfoldable pub StaysOpen : Begun → Type 0
StaysOpen b = (0 < b.left) × (still_open b ≡ Some b) × (given_out b ≡ [])

pub whole_or_open : (b : Begun) → IsWhole b ⊎ StaysOpen b
unfolding IsWhole StaysOpen
whole_or_open b = go (eqb b.left 0) refl
  where
    go : (t : Bool) → eqb b.left 0 ≡ t → ((b.left ≡ 0) × (still_open b ≡ None) × (given_out b ≡ record_of b ∷ [])) ⊎ ((0 < b.left) × (still_open b ≡ Some b) × (given_out b ≡ []))
    go true e = inl (eqb-true b.left 0 e, rw e refl, rw e refl)
    go false e = let ne = eqb-false b.left 0 e in inr (omega (arith, ne), rw e refl, rw e refl)

-- the record that a fragment begins, and the one that it continues
abbrev pub begun_by : Fragment → Begun
begun_by f = record { index = nat_abs f.index; stream = nat_abs f.stream; bytes = f.bytes; left = f.size - length f.bytes }

abbrev pub continued_by : Begun → Fragment → Begun
continued_by b f = record { index = b.index; stream = b.stream; bytes = b.bytes ++ f.bytes; left = f.size - length f.bytes }

pub begins : (f : Fragment) (b : Begun) → with_fragment None f ≡ Ok b → (is_negative f.stream ≡ false) × (begun_by f ≡ b)
unfolding with_fragment
begins f b e =
    elim (chosen (is_negative f.stream) (Err 60) (Ok (begun_by f)) (Ok b) e) [
      | inl p ↦ absurd (err_is_not_ok 60 b p.1)
      | inr p ↦ (p.0, ok_is (begun_by f) b p.1)
    ]

pub continues : (o : Begun) (f : Fragment) (b : Begun) → with_fragment (Some o) f ≡ Ok b
    → (is_negative f.stream ≡ true) × (nat_abs f.stream ≡ o.stream) × (f.size ≡ o.left) × (continued_by o f ≡ b)
unfolding with_fragment
continues o f b e =
    elim (chosen (not (is_negative f.stream && eqb (nat_abs f.stream) o.stream)) (Err 61) next (Ok b) e) [
      | inl p ↦ absurd (err_is_not_ok 61 b p.1)
      | inr p ↦
          let t = and_parts (is_negative f.stream) (eqb (nat_abs f.stream) o.stream) (not-false (is_negative f.stream && eqb (nat_abs f.stream) o.stream) p.0) in
          elim (chosen (not (eqb f.size o.left)) (Err 62) (Ok (continued_by o f)) (Ok b) p.1) [
            | inl q ↦ absurd (err_is_not_ok 62 b q.1)
            | inr q ↦ (t.0, eqb-true (nat_abs f.stream) o.stream t.1, eqb-true f.size o.left (not-false (eqb f.size o.left) q.0), ok_is (continued_by o f) b q.1)
          ]
    ]
  where
    next : Result Begun ℕ
    next = cond (not (eqb f.size o.left)) (Err 62) (Ok (continued_by o f))

abbrev IsOpenAt : ℕ → Option Begun → Type 0
IsOpenAt index None = Unit {0}
IsOpenAt index (Some b) = (b.index ≡ index) × (0 < b.left)

-- one fragment before a cut
first_step : (index : ℕ) (f : Fragment) (fs : List Fragment) (records : List Record) → IsFragmentFor index f → is_negative f.stream ≡ false
    → IsCutBehind (still_open (begun_by f)) records fs → IsCut (given_out (begun_by f) ++ records) (f ∷ fs)
unfolding IsWhole StaysOpen
first_step index f fs records ok positive behind =
    let b = begun_by f in
    let index_is : f.index ≡ pos b.index = ok.index_is ∙ ap pos (sym (abs_pos f.index index ok.index_is)) in
    let stream_is : f.stream ≡ pos b.stream = not_negative f.stream positive in
    elim (whole_or_open b) [
      | inl d ↦
          let cut : IsCut records fs = subst (λ (o : Option Begun). IsCutBehind o records fs) d.1 behind in
          let size_is : f.size ≡ length f.bytes = omega (arith, d.0, ok.within) in
          subst (λ (given : List Record). IsCut (given ++ records) (f ∷ fs)) (sym d.2)
          (f ∷ [], fs, refl, (index_is, stream_is, size_is, [], sym (append-nil f.bytes), refl, λ _. refl), cut)
      | inr d ↦
          let g : GoesOn b records fs = subst (λ (o : Option Begun). IsCutBehind o records fs) d.1 behind in
          let size_is : f.size ≡ length (f.bytes ++ g.left) = omega (arith, g.left_is, d.0, ok.within, length-append f.bytes g.left) in
          subst (λ (given : List Record). IsCut (given ++ records) (f ∷ fs)) (sym d.2)
          (subst (λ (rs : List Record). IsCut rs (f ∷ fs)) (sym g.records_are)
          (f ∷ g.parts, g.others, ap (λ (x : List Fragment). f ∷ x) g.fragments_are, (index_is, stream_is, size_is, g.left, refl, g.go_on, λ z. absurd (g.has_negation z)), g.cut))
    ]

next_step : (index : ℕ) (o : Begun) (f : Fragment) (fs : List Fragment) (records : List Record) → IsFragmentFor index f → IsOpenAt index (Some o)
    → is_negative f.stream ≡ true → nat_abs f.stream ≡ o.stream → f.size ≡ o.left
    → IsCutBehind (still_open (continued_by o f)) records fs → GoesOn o (given_out (continued_by o f) ++ records) (f ∷ fs)
unfolding IsWhole StaysOpen
next_step index o f fs records ok open_at below stream_of left_of behind =
    let b = continued_by o f in
    let index_is : f.index ≡ pos o.index = ok.index_is ∙ ap pos (sym open_at.0) in
    let stream = negative f.stream o.stream below stream_of in
    elim (whole_or_open b) [
      | inl d ↦
          let cut : IsCut records fs = subst (λ (x : Option Begun). IsCutBehind x records fs) d.1 behind in
          let size_is : f.size ≡ length f.bytes = omega (arith, d.0, ok.within) in
          subst (λ (given : List Record). GoesOn o (given ++ records) (f ∷ fs)) (sym d.2) (record {
            left = f.bytes;
            parts = f ∷ [];
            others = fs;
            more = records;
            fragments_are = refl;
            records_are = refl;
            left_is = sym size_is ∙ left_of;
            go_on = (index_is, stream.0, size_is, omega (arith, size_is, left_of, open_at.1), [], sym (append-nil f.bytes), refl);
            cut = cut;
            has_negation = stream.1;
          })
      | inr d ↦
          let g : GoesOn b records fs = subst (λ (x : Option Begun). IsCutBehind x records fs) d.1 behind in
          let size_is : f.size ≡ length (f.bytes ++ g.left) = omega (arith, g.left_is, d.0, ok.within, length-append f.bytes g.left) in
          subst (λ (given : List Record). GoesOn o (given ++ records) (f ∷ fs)) (sym d.2) (record {
            left = f.bytes ++ g.left;
            parts = f ∷ g.parts;
            others = g.others;
            more = g.more;
            fragments_are = ap (λ (x : List Fragment). f ∷ x) g.fragments_are;
            records_are = g.records_are ∙ ap (λ (x : List ℕ). record { index = o.index; stream = o.stream; bytes = x } ∷ g.more) (append_assoc o.bytes f.bytes g.left);
            left_is = sym size_is ∙ left_of;
            go_on = (index_is, stream.0, size_is, omega (arith, size_is, left_of, open_at.1), g.left, refl, g.go_on);
            cut = g.cut;
            has_negation = stream.1;
          })
    ]

still_open_at : (index : ℕ) (b : Begun) → b.index ≡ index → IsOpenAt index (still_open b)
unfolding IsWhole StaysOpen
still_open_at index b e =
    elim (whole_or_open b) [
      | inl d ↦ subst (λ (o : Option Begun). IsOpenAt index o) (sym d.1) tt
      | inr d ↦ subst (λ (o : Option Begun). IsOpenAt index o) (sym d.1) (e, d.0)
    ]

-- what joining gives is what the fragments are a cut of
pub joined_is_cut : (index : ℕ) (o : Option Begun) (fs : List Fragment) (records : List Record) → AllByRecursion (IsFragmentFor index) fs → IsOpenAt index o
    → join_from o fs ≡ Ok records → IsCutBehind o records fs
unfolding join_from
joined_is_cut index None [] records each open_at e = subst (λ (rs : List Record). IsCut rs []) (ok_is [] records e) refl
joined_is_cut index (Some b) [] records each open_at e = absurd cc
joined_is_cut index None (f ∷ fs) records each open_at e =
    let give : Begun → List Record → Result (List Record) ℕ = λ b rs. Ok (given_out b ++ rs) in
    let go : Begun → Result (List Record) ℕ = λ b. join_from (still_open b) fs >>= give b in
    let p = bind_ok (with_fragment None f) go records e in
    let q = bind_ok (join_from (still_open p.0) fs) (give p.0) records p.2 in
    let made = begins f p.0 p.1 in
    let at : p.0.index ≡ index = ap (λ (b : Begun). b.index) (sym made.1) ∙ abs_pos f.index index each.0.index_is in
    let behind = joined_is_cut index (still_open p.0) fs q.0 each.1 (still_open_at index p.0 at) q.1 in
    let behind_made : IsCutBehind (still_open (begun_by f)) q.0 fs = subst (λ (b : Begun). IsCutBehind (still_open b) q.0 fs) (sym made.1) behind in
    let cut = first_step index f fs q.0 each.0 made.0 behind_made in
    subst (λ (rs : List Record). IsCut rs (f ∷ fs)) (ok_is (given_out p.0 ++ q.0) records q.2)
    (subst (λ (b : Begun). IsCut (given_out b ++ q.0) (f ∷ fs)) made.1 cut)
joined_is_cut index (Some o) (f ∷ fs) records each open_at e =
    let give : Begun → List Record → Result (List Record) ℕ = λ b rs. Ok (given_out b ++ rs) in
    let go : Begun → Result (List Record) ℕ = λ b. join_from (still_open b) fs >>= give b in
    let p = bind_ok (with_fragment (Some o) f) go records e in
    let q = bind_ok (join_from (still_open p.0) fs) (give p.0) records p.2 in
    let made = continues o f p.0 p.1 in
    let at : p.0.index ≡ index = ap (λ (b : Begun). b.index) (sym made.3) ∙ open_at.0 in
    let behind = joined_is_cut index (still_open p.0) fs q.0 each.1 (still_open_at index p.0 at) q.1 in
    let behind_made : IsCutBehind (still_open (continued_by o f)) q.0 fs = subst (λ (b : Begun). IsCutBehind (still_open b) q.0 fs) (sym made.3) behind in
    let cut = next_step index o f fs q.0 each.0 open_at made.0 made.1 made.2 behind_made in
    subst (λ (rs : List Record). GoesOn o rs (f ∷ fs)) (ok_is (given_out p.0 ++ q.0) records q.2)
    (subst (λ (b : Begun). GoesOn o (given_out b ++ q.0) (f ∷ fs)) made.3 cut)

-- ---- a cut is joined again

negated : (s : ℕ) → (s ≡ 0 → ⊥) → (is_negative (neg_ℤ (pos s)) ≡ true) × (nat_abs (neg_ℤ (pos s)) ≡ s)
negated zero h = absurd (h refl)
negated (suc n) h = (refl, refl)

-- nothing goes on with a record that is whole
nothing_left : (index stream : ℕ) (left : List ℕ) (fs : List Fragment) → length left ≡ 0 → GoOn index stream left fs → fs ≡ []
nothing_left index stream left [] e g = refl
nothing_left index stream left (f ∷ fs) e g = absurd (omega (arith, e, g.3))

pub continues_as : (b : Begun) (f : Fragment) → (b.stream ≡ 0 → ⊥) → f.stream ≡ neg_ℤ (pos b.stream) → f.size ≡ b.left → with_fragment (Some b) f ≡ Ok (continued_by b f)
unfolding with_fragment
continues_as b f nonzero stream_is size_is =
    let n = negated b.stream nonzero in
    let below : is_negative f.stream ≡ true = ap is_negative stream_is ∙ n.0 in
    let same : eqb (nat_abs f.stream) b.stream ≡ true = eq-eqb (nat_abs f.stream) b.stream (ap nat_abs stream_is ∙ n.1) in
    let size : eqb f.size b.left ≡ true = eq-eqb f.size b.left size_is in
    rw (below, same, size) refl

begins_as : (f : Fragment) (s : ℕ) → f.stream ≡ pos s → with_fragment None f ≡ Ok (begun_by f)
unfolding with_fragment
begins_as f s stream_is =
    let positive : is_negative f.stream ≡ false = ap is_negative stream_is ∙ not_below s in
    rw positive refl
  where
    not_below : (n : ℕ) → is_negative (pos n) ≡ false
    not_below n = le-ltb n 0 (omega arith)

-- an open record, the parts that go on with it, and records after it
open_is_joined : (b : Begun) (left : List ℕ) (parts others : List Fragment) (more : List Record) → GoOn b.index b.stream left parts → length left ≡ b.left → 0 < b.left
    → (b.stream ≡ 0 → ⊥) → join_from None others ≡ Ok more
    → join_from (Some b) (parts ++ others) ≡ Ok (record { index = b.index; stream = b.stream; bytes = b.bytes ++ left } ∷ more)
unfolding join_from IsWhole StaysOpen
open_is_joined b left [] others more g left_is some nonzero rest = absurd (omega (arith, left_is, some, ap length g))
open_is_joined b left (f ∷ fs) others more g left_is some nonzero rest =
    let c = continued_by b f in
    let after = g.4 in
    let taken : with_fragment (Some b) f ≡ Ok c = continues_as b f nonzero g.1 (g.2 ∙ left_is) in
    let after_is : length after ≡ c.left = omega (arith, g.2, ap length g.5, length-append f.bytes after) in
    let bytes_are : c.bytes ++ after ≡ b.bytes ++ left = append_assoc b.bytes f.bytes after ∙ ap (λ (x : List ℕ). b.bytes ++ x) (sym g.5) in
    let whole : List ℕ → List Record = λ bytes. record { index = b.index; stream = b.stream; bytes = bytes } ∷ more in
    elim (whole_or_open c) [
      | inl d ↦
          let none : after ≡ [] = nil_from_length after (after_is ∙ d.0) in
          let end : fs ≡ [] = nothing_left b.index b.stream after fs (after_is ∙ d.0) g.6 in
          let joined : join_from None (fs ++ others) ≡ Ok more = rw end rest in
          let all : c.bytes ≡ b.bytes ++ left = sym (append-nil c.bytes) ∙ ap (λ (x : List ℕ). c.bytes ++ x) (sym none) ∙ bytes_are in
          rw (taken, d.1, joined, d.2) (ap (λ (x : List ℕ). Ok (whole x)) all)
      | inr d ↦
          let joined = open_is_joined c after fs others more g.6 after_is d.0 nonzero rest in
          rw (taken, d.1, joined, d.2) (ap (λ (x : List ℕ). Ok (whole x)) bytes_are)
    ]

-- the parts of a record, and records after it
parts_are_joined : (r : Record) (parts others : List Fragment) (more : List Record) → AreParts r parts → join_from None others ≡ Ok more
    → join_from None (parts ++ others) ≡ Ok (r ∷ more)
unfolding join_from IsWhole StaysOpen
parts_are_joined r [] others more p rest = absurd p
parts_are_joined r (f ∷ fs) others more p rest =
    let b = begun_by f in
    let after = p.3 in
    let taken : with_fragment None f ≡ Ok b = begins_as f r.stream p.1 in
    let index_is : b.index ≡ r.index = abs_pos f.index r.index p.0 in
    let stream_is : b.stream ≡ r.stream = abs_pos f.stream r.stream p.1 in
    let after_is : length after ≡ b.left = omega (arith, p.2, ap length p.4, length-append f.bytes after) in
    elim (whole_or_open b) [
      | inl d ↦
          let none : after ≡ [] = nil_from_length after (after_is ∙ d.0) in
          let end : fs ≡ [] = nothing_left r.index r.stream after fs (after_is ∙ d.0) p.5 in
          let joined : join_from None (fs ++ others) ≡ Ok more = rw end rest in
          let bytes_are : b.bytes ≡ r.bytes = sym (append-nil b.bytes) ∙ ap (λ (x : List ℕ). b.bytes ++ x) (sym none) ∙ sym p.4 in
          rw (taken, d.1, joined, d.2) (same_record b.index r.index b.stream r.stream b.bytes r.bytes index_is stream_is bytes_are)
      | inr d ↦
          let go_on : GoOn b.index b.stream after fs = subst (λ (i : ℕ). GoOn i b.stream after fs) (sym index_is) (subst (λ (s : ℕ). GoOn r.index s after fs) (sym stream_is) p.5) in
          let nonzero : b.stream ≡ 0 → ⊥ = λ z. some_parts fs after go_on (p.6 (sym stream_is ∙ z)) (omega (arith, after_is, d.0)) in
          let joined = open_is_joined b after fs others more go_on after_is d.0 nonzero rest in
          rw (taken, d.1, joined, d.2) (same_record b.index r.index b.stream r.stream (b.bytes ++ after) r.bytes index_is stream_is (sym p.4))
    ]
  where
    same_record : (i j s t : ℕ) (xs ys : List ℕ) → i ≡ j → s ≡ t → xs ≡ ys
        → ◌≡◌ {A = Result (List Record) ℕ} (Ok (record { index = i; stream = s; bytes = xs } ∷ more)) (Ok (record { index = j; stream = t; bytes = ys } ∷ more))
    same_record i j s t xs ys e f g = rw (e, f, g) refl

    some_parts : (gs : List Fragment) (after : List ℕ) → GoOn (nat_abs f.index) (nat_abs f.stream) after gs → gs ≡ [] → 0 < length after → ⊥
    some_parts [] after g e lt = omega (arith, lt, ap length g)
    some_parts (h ∷ hs) after g e lt = absurd (omega (arith, ap length e))

-- a cut is joined to the records of which it is one
pub cut_is_joined : (records : List Record) (fs : List Fragment) → IsCut records fs → join_from None fs ≡ Ok records
unfolding join_from
cut_is_joined [] fs cut = rw cut refl
cut_is_joined (r ∷ rs) fs cut = rw cut.2 (parts_are_joined r cut.0 cut.1 rs cut.3 (cut_is_joined rs cut.1 cut.4))

pub join_is_exact_lem : JoinIsExact
unfolding join
join_is_exact_lem index fs records each = (joined_is_cut index None fs records each tt, cut_is_joined records fs)
