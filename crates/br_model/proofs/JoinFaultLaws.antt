-- The refusals of joining are the first faults.
use Rattle.std.proofs.Common.{◌≡◌, ℕ, ◌-◌, ◌<◌, Bool, true, false, not, ◌&&◌, cond, eqb, List, [], ◌∷◌, ◌++◌, length, replicate, Option, Some, None, Result, Ok, Err, refl, sym, ap, subst, ◌∙◌, inl, inr, ◌⊎◌, arith, append_assoc}
use Rattle.std.proofs.lemmas.Bool.{eqb-true, eqb-false, le-ltb, ne_eqb, both_ways, and_parts, not-false}
use Rattle.std.proofs.lemmas.List.{append-nil, length-replicate}
use Rattle.std.specs.Prelude.{ℤ, pos, negsuc, neg_ℤ, nat_abs}
use Rattle.std.specs.Int.{is_negative}
use Rattle.std.specs.List.{AllByRecursion}
use Rattle.br_model.specs.Answer.{◌>>=◌}
use Rattle.br_model.specs.Block.{Fragment}
use Rattle.br_model.specs.Record.{Record, IsCut, IsFragmentFor, Begun, with_fragment, still_open, given_out, join_from, join, BeginsCut, IsWholeCut, HasOpenStream, IsFaultNumber, IsFaultBehind, IsFirstFault, JoinFaultsAreFirst}
use Rattle.br_model.proofs.AnswerLaws.{bind_ok, chosen}
use Rattle.br_model.proofs.RecordLaws.{negative, IsWhole, StaysOpen, whole_or_open, begun_by, continued_by, record_of, begins, continues, continues_as, joined_is_cut, cut_is_joined}
use Rattle.br_model.proofs.ListLaws.{all_append}

-- what holds of the elements of a join holds of those of its two parts
all_of_append : {X : Type 0} (P : X → Type 0) (xs ys : List X) → AllByRecursion P (xs ++ ys) → AllByRecursion P xs × AllByRecursion P ys
all_of_append P [] ys h = (tt, h)
all_of_append P (x ∷ xs) ys h = let rest = all_of_append P xs ys h.1 in ((h.0, rest.0), rest.1)

err_is : {A : Type 0} (m n : ℕ) → ◌≡◌ {A = Result A ℕ} (Err m) (Err n) → m ≡ n
err_is m n e = cc

not_both : {A P : Type 0} (r : Result A ℕ) (x : A) (n : ℕ) → r ≡ Ok x → r ≡ Err n → P
not_both r x n e f = absurd cc

-- the open record can be closed
abbrev CanClose : Option Begun → Type 0
CanClose None = Unit {0}
CanClose (Some b) = (0 < b.left) × (b.stream ≡ 0 → ⊥)

-- the walk went over the front, gave these records, and this one is open
record HasWalked (index : ℕ) (front : List Fragment) (o : Option Begun) (given : List Record) : Type 0 where
  walked : (rest : List Fragment) → join_from None (front ++ rest) ≡ (join_from o rest >>= λ records. Ok (given ++ records))
  each : AllByRecursion (IsFragmentFor index) front
  closes : CanClose o

step_ok : (o : Option Begun) (f : Fragment) (fs : List Fragment) (d : Begun) → with_fragment o f ≡ Ok d
    → join_from o (f ∷ fs) ≡ (join_from (still_open d) fs >>= λ records. Ok (given_out d ++ records))
unfolding join_from
step_ok None f fs d e = rw e refl
step_ok (Some b) f fs d e = rw e refl

step_err : (o : Option Begun) (f : Fragment) (fs : List Fragment) (n : ℕ) → with_fragment o f ≡ Err n → join_from o (f ∷ fs) ≡ Err n
unfolding join_from
step_err None f fs n e = rw e refl
step_err (Some b) f fs n e = rw e refl

-- a fragment with all that is still to come closes the record
closing_ends : (b : Begun) (c : Fragment) → with_fragment (Some b) c ≡ Ok (continued_by b c) → c.size - length c.bytes ≡ 0 → join_from (Some b) (c ∷ []) ≡ Ok (record_of (continued_by b c) ∷ [])
unfolding join_from
closing_ends b c e none = rw (e, none) refl

-- the front ends with all records whole
ends_whole : (index : ℕ) (front : List Fragment) (given : List Record) → HasWalked index front None given → IsCut given front
unfolding join_from
ends_whole index front given w =
    let joined : join_from None front ≡ Ok given = ap (λ (fs : List Fragment). join_from None fs) (sym (append-nil front)) ∙ w.walked [] ∙ ap (λ (rs : List Record). Ok rs) (append-nil given) in
    joined_is_cut index None front given w.each tt joined

-- after an open record, one fragment that closes it makes a cut
closed_is_cut : (index : ℕ) (front : List Fragment) (b : Begun) (given : List Record) (c : Fragment) → HasWalked index front (Some b) given → IsFragmentFor index c
    → with_fragment (Some b) c ≡ Ok (continued_by b c) → c.size - length c.bytes ≡ 0 → IsCut (given ++ record_of (continued_by b c) ∷ []) (front ++ c ∷ [])
closed_is_cut index front b given c w ok e none =
    let joined = w.walked (c ∷ []) ∙ ap (λ r. r >>= λ records. Ok (given ++ records)) (closing_ends b c e none) in
    joined_is_cut index None (front ++ c ∷ []) (given ++ record_of (continued_by b c) ∷ []) (all_append (IsFragmentFor index) front (c ∷ []) w.each (ok, tt)) tt joined

-- the front begins a cut
does_begin : (index : ℕ) (front : List Fragment) (o : Option Begun) (given : List Record) → HasWalked index front o given → BeginsCut index front
does_begin index front None given w = ([], given, tt, subst (λ (fs : List Fragment). IsCut given fs) (sym (append-nil front)) (ends_whole index front given w))
does_begin index front (Some b) given w =
    let c : Fragment = record { session = record { id = 0; time = 0 }; index = pos index; stream = neg_ℤ (pos b.stream); size = b.left; bytes = replicate b.left 0 } in
    let ok : IsFragmentFor index c = record { index_is = refl; within = omega (arith, length-replicate {A = ℕ} b.left 0) } in
    (c ∷ [], given ++ record_of (continued_by b c) ∷ [], (ok, tt), closed_is_cut index front b given c w ok (continues_as b c w.closes.1 refl refl) (omega (arith, length-replicate {A = ℕ} b.left 0)))

-- with a record open, the front is no cut
not_whole : (index : ℕ) (front : List Fragment) (b : Begun) (given : List Record) → HasWalked index front (Some b) given → IsWholeCut front → ⊥
unfolding join_from
not_whole index front b given w cut =
    let joined : join_from None (front ++ []) ≡ Ok cut.0 = ap (λ (fs : List Fragment). join_from None fs) (append-nil front) ∙ cut_is_joined cut.0 front cut.1 in
    not_both (join_from None (front ++ [])) cut.0 61 joined (w.walked [])

-- if every walk after a fragment is refused, no cut begins with it
no_cut : (index : ℕ) (front : List Fragment) (o : Option Begun) (given : List Record) (f : Fragment) → HasWalked index front o given
    → ((more : List Fragment) → (n : ℕ) × (join_from o (f ∷ more) ≡ Err n)) → BeginsCut index (front ++ f ∷ []) → ⊥
no_cut index front o given f w refused begins_cut =
    let more = begins_cut.0 in
    let r = refused more in
    let joined = cut_is_joined begins_cut.1 ((front ++ f ∷ []) ++ more) begins_cut.3 in
    let other : join_from None ((front ++ f ∷ []) ++ more) ≡ Err r.0 =
    ap (λ (fs : List Fragment). join_from None fs) (append_assoc front (f ∷ []) more) ∙ w.walked (f ∷ more) ∙ ap (λ x. x >>= λ records. Ok (given ++ records)) r.1 in
    not_both (join_from None ((front ++ f ∷ []) ++ more)) begins_cut.1 r.0 joined other

-- the number of a refused fragment
fault_number : (index : ℕ) (front : List Fragment) (o : Option Begun) (given : List Record) (f : Fragment) (n : ℕ) → HasWalked index front o given → IsFragmentFor index f
    → with_fragment o f ≡ Err n → IsFaultNumber index front f n
unfolding with_fragment
fault_number index front None given f n w ok e =
    elim (chosen (is_negative f.stream) (Err 60) (Ok (begun_by f)) (Err n) e) [
      | inl p ↦ inl (sym (err_is {A = Begun} 60 n p.1), p.0, (given, ends_whole index front given w))
      | inr p ↦ not_both (Ok (begun_by f)) (begun_by f) n refl p.1
    ]
fault_number index front (Some b) given f n w ok e =
    elim (chosen (not (is_negative f.stream && eqb (nat_abs f.stream) b.stream)) (Err 61) next (Err n) e) [
      | inl p ↦ inr (inl (sym (err_is {A = Begun} 61 n p.1), other (is_negative f.stream) refl p.0))
      | inr p ↦
          let t = and_parts (is_negative f.stream) (eqb (nat_abs f.stream) b.stream) (not-false (is_negative f.stream && eqb (nat_abs f.stream) b.stream) p.0) in
          elim (chosen (not (eqb f.size b.left)) (Err 62) (Ok (continued_by b f)) (Err n) p.1) [
            | inl q ↦
                let stream = negative f.stream b.stream t.0 (eqb-true (nat_abs f.stream) b.stream t.1) in
                let c : Fragment = record f { size = b.left; bytes = replicate b.left 0 } in
                let fits : IsFragmentFor index c = record { index_is = ok.index_is; within = omega (arith, length-replicate {A = ℕ} b.left 0) } in
                let cut = closed_is_cut index front b given c w fits (continues_as b c w.closes.1 stream.0 refl) (omega (arith, length-replicate {A = ℕ} b.left 0)) in
                let begun : BeginsCut index (front ++ c ∷ []) =
                ([], given ++ record_of (continued_by b c) ∷ [], tt, subst (λ (fs : List Fragment). IsCut (given ++ record_of (continued_by b c) ∷ []) fs) (sym (append-nil (front ++ c ∷ []))) cut) in
                inr (inr (sym (err_is {A = Begun} 62 n q.1), t.0, not_whole index front b given w, (b.left, replicate b.left 0, begun)))
            | inr q ↦ not_both (Ok (continued_by b f)) (continued_by b f) n refl q.1
          ]
    ]
  where
    next : Result Begun ℕ
    next = cond (not (eqb f.size b.left)) (Err 62) (Ok (continued_by b f))

    refuses_stream : (size : ℕ) (bytes : List ℕ) → not (is_negative f.stream && eqb (nat_abs f.stream) b.stream) ≡ true → with_fragment (Some b) (record f { size = size; bytes = bytes }) ≡ Err 61
    refuses_stream size bytes test = rw test refl

    other : (negative_stream : Bool) → is_negative f.stream ≡ negative_stream → not (is_negative f.stream && eqb (nat_abs f.stream) b.stream) ≡ true
        → (is_negative f.stream ≡ false) ⊎ ((¬ IsWholeCut front) × (¬ HasOpenStream index front f))
    other false is test = inl is
    other true is test =
        inr (
          not_whole index front b given w,
          λ cut. no_cut index front (Some b) given (record f { size = cut.0; bytes = cut.1 }) w (λ more. (61, step_err (Some b) (record f { size = cut.0; bytes = cut.1 }) more 61 (refuses_stream cut.0 cut.1 test))) cut.2,
        )

-- nothing goes on with a record of stream 0
no_negation : (z : ℤ) → (is_negative z && eqb (nat_abs z) 0) ≡ false
no_negation (pos n) = let e : is_negative (pos n) ≡ false = le-ltb n 0 (omega arith) in rw e refl
no_negation (negsuc n) = ne_eqb (nat_abs (negsuc n)) 0 (λ e. omega (arith, e))

never_closes : (d : Begun) → d.stream ≡ 0 → (more : List Fragment) → join_from (Some d) more ≡ Err 61
unfolding join_from with_fragment
never_closes d e [] = refl
never_closes d e (g ∷ more) =
    let test : (is_negative g.stream && eqb (nat_abs g.stream) d.stream) ≡ false = rw e (no_negation g.stream) in
    rw test refl

bind_assoc : (r : Result (List Record) ℕ) (first second : List Record)
    → ((r >>= λ records. Ok (second ++ records)) >>= λ records. Ok (first ++ records)) ≡ (r >>= λ records. Ok ((first ++ second) ++ records))
bind_assoc (Ok records) first second = ap (λ (rs : List Record). Ok rs) (sym (append_assoc first second records))
bind_assoc (Err n) first second = refl

bind_err : (r : Result (List Record) ℕ) (first : List Record) (n : ℕ) → (r >>= λ records. Ok (first ++ records)) ≡ Err n → r ≡ Err n
bind_err (Ok records) first n e = not_both (Ok (first ++ records)) (first ++ records) n refl e
bind_err (Err m) first n e = ap (λ (k : ℕ). Err k) (err_is {A = List Record} m n e)

walks_on : (index : ℕ) (front : List Fragment) (o p : Option Begun) (given : List Record) (f : Fragment) (d : Begun) → HasWalked index front o given → IsFragmentFor index f
    → with_fragment o f ≡ Ok d → still_open d ≡ p → CanClose p → HasWalked index (front ++ f ∷ []) p (given ++ given_out d)
walks_on index front o p given f d w ok e is closes = record {
  walked = λ rest.
      ap (λ (fs : List Fragment). join_from None fs) (append_assoc front (f ∷ []) rest) ∙ w.walked (f ∷ rest)
      ∙ ap (λ r. r >>= λ records. Ok (given ++ records)) (step_ok o f rest d e ∙ ap (λ x. join_from x rest >>= λ records. Ok (given_out d ++ records)) is)
      ∙ bind_assoc (join_from p rest) given (given_out d);
  each = all_append (IsFragmentFor index) front (f ∷ []) w.each (ok, tt);
  closes = closes;
}

-- a fragment that leaves a record of stream 0 open is its first
opens_stream_0 : (o : Option Begun) (f : Fragment) (d : Begun) → CanClose o → with_fragment o f ≡ Ok d → d.stream ≡ 0 → is_negative f.stream ≡ false
opens_stream_0 None f d closes e zero_stream = (begins f d e).0
opens_stream_0 (Some b) f d closes e zero_stream =
    let made = continues b f d e in
    absurd (closes.1 (ap (λ (x : Begun). x.stream) made.3 ∙ zero_stream))

-- the walk goes on after one more fragment
abbrev StepsOn : ℕ → List Fragment → List Record → Fragment → Begun → Type 0
StepsOn index front given f d = (p : Option Begun) × (still_open d ≡ p) × HasWalked index (front ++ f ∷ []) p (given ++ given_out d)

-- the fragment opens a record that nothing closes
abbrev OpensForGood : Option Begun → Fragment → Type 0
OpensForGood o f = (is_negative f.stream ≡ false) × ((more : List Fragment) → join_from o (f ∷ more) ≡ Err 61)

-- a fragment that joining takes moves the walk on, or opens a record that nothing closes
steps_or_stays_open : (index : ℕ) (front : List Fragment) (o : Option Begun) (given : List Record) (f : Fragment) (d : Begun) → HasWalked index front o given → IsFragmentFor index f
    → with_fragment o f ≡ Ok d → StepsOn index front given f d ⊎ OpensForGood o f
unfolding IsWhole StaysOpen
steps_or_stays_open index front o given f d w ok is =
    elim (whole_or_open d) [
      | inl q ↦ inl (None, q.1, walks_on index front o None given f d w ok is q.1 tt)
      | inr q ↦ opened q.0 q.1 (eqb d.stream 0) refl
    ]
  where
    opened : 0 < d.left → still_open d ≡ Some d → (b : Bool) → eqb d.stream 0 ≡ b → StepsOn index front given f d ⊎ OpensForGood o f
    opened some still false test = inl (Some d, still, walks_on index front o (Some d) given f d w ok is still (some, eqb-false d.stream 0 test))
    opened some still true test =
        let stream_0 = eqb-true d.stream 0 test in
        inr (
          opens_stream_0 o f d w.closes is stream_0,
          λ more.
              step_ok o f more d is ∙ ap (λ x. join_from x more >>= λ records. Ok (given_out d ++ records)) still
              ∙ ap (λ r. r >>= λ records. Ok (given_out d ++ records)) (never_closes d stream_0 more),
        )

-- after a walk, the number that joining is refused with is that of a first fault
first_fault : (index : ℕ) (front : List Fragment) (o : Option Begun) (given : List Record) (fs : List Fragment) (n : ℕ) → HasWalked index front o given
    → AllByRecursion (IsFragmentFor index) fs → join_from o fs ≡ Err n → IsFirstFault index (front ++ fs) n
unfolding join_from
first_fault index front None given [] n w each e = not_both (Ok []) [] n refl e
first_fault index front (Some b) given [] n w each e = record {
  front = front;
  back = [];
  joined = refl;
  begins = does_begin index front (Some b) given w;
  fault = (sym (err_is {A = List Record} 61 n e), not_whole index front b given w);
}
first_fault index front o given (f ∷ fs) n w each e =
    go (with_fragment o f) refl (λ p d w2 e2. subst (λ (xs : List Fragment). IsFirstFault index xs n) (append_assoc front (f ∷ []) fs) (first_fault index (front ++ f ∷ []) p (given ++ given_out d) fs n w2 each.1 e2))
  where
    go : (r : Result Begun ℕ) → with_fragment o f ≡ r
        → ((p : Option Begun) (d : Begun) → HasWalked index (front ++ f ∷ []) p (given ++ given_out d) → join_from p fs ≡ Err n → IsFirstFault index (front ++ f ∷ fs) n)
        → IsFirstFault index (front ++ f ∷ fs) n
    go (Err m) is rest =
        let same : m ≡ n = err_is {A = List Record} m n (sym (step_err o f fs m is) ∙ e) in
        record {
          front = front;
          back = f ∷ fs;
          joined = refl;
          begins = does_begin index front o given w;
          fault = (no_cut index front o given f w (λ more. (m, step_err o f more m is)), subst (λ (k : ℕ). IsFaultNumber index front f k) same (fault_number index front o given f m w each.0 is));
        }
    go (Ok d) is rest =
        elim (steps_or_stays_open index front o given f d w each.0 is) [
          | inl s ↦
              let behind : join_from (still_open d) fs ≡ Err n = bind_err (join_from (still_open d) fs) (given_out d) n (sym (step_ok o f fs d is) ∙ e) in
              rest s.0 d s.2 (ap (λ x. join_from x fs) (sym s.1) ∙ behind)
          | inr q ↦ record {
            front = front;
            back = f ∷ fs;
            joined = refl;
            begins = does_begin index front o given w;
            fault = (no_cut index front o given f w (λ more. (61, q.1 more)), inr (inl (err_is {A = List Record} n 61 (sym e ∙ q.1 fs), inl q.0)));
          }
        ]

at_the_start : (index : ℕ) → HasWalked index [] None []
at_the_start index = record { walked = λ rest. sym (same (join_from None rest)); each = tt; closes = tt }
  where
    same : (r : Result (List Record) ℕ) → (r >>= λ records. Ok records) ≡ r
    same (Ok records) = refl
    same (Err n) = refl

-- ---- a first fault is refused

-- the walk goes over fragments with which a cut begins
walks_over : (index : ℕ) (front : List Fragment) (o : Option Begun) (given : List Record) (fs more : List Fragment) (records : List Record) → HasWalked index front o given
    → AllByRecursion (IsFragmentFor index) fs → join_from o (fs ++ more) ≡ Ok records → (p : Option Begun) × (all : List Record) × HasWalked index (front ++ fs) p all
walks_over index front o given [] more records w each e = (o, given, subst (λ (xs : List Fragment). HasWalked index xs o given) (sym (append-nil front)) w)
walks_over index front o given (f ∷ fs) more records w each e =
    go (with_fragment o f) refl (λ p d rs w2 e2.
    let made = walks_over index (front ++ f ∷ []) p (given ++ given_out d) fs more rs w2 each.1 e2 in
    (made.0, made.1, subst (λ (xs : List Fragment). HasWalked index xs made.0 made.1) (append_assoc front (f ∷ []) fs) made.2))
  where
    go : (r : Result Begun ℕ) → with_fragment o f ≡ r
        → ((p : Option Begun) (d : Begun) (rs : List Record) → HasWalked index (front ++ f ∷ []) p (given ++ given_out d) → join_from p (fs ++ more) ≡ Ok rs
        → (q : Option Begun) × (all : List Record) × HasWalked index (front ++ f ∷ fs) q all)
        → (q : Option Begun) × (all : List Record) × HasWalked index (front ++ f ∷ fs) q all
    go (Err m) is rest = not_both (join_from o (f ∷ fs ++ more)) records m e (step_err o f (fs ++ more) m is)
    go (Ok d) is rest =
        elim (steps_or_stays_open index front o given f d w each.0 is) [
          | inl s ↦
              let give : List Record → Result (List Record) ℕ = λ rs. Ok (given_out d ++ rs) in
              let behind = bind_ok (join_from (still_open d) (fs ++ more)) give records (sym (step_ok o f (fs ++ more) d is) ∙ e) in
              rest s.0 d behind.0 s.2 (ap (λ x. join_from x (fs ++ more)) (sym s.1) ∙ behind.1)
          | inr q ↦ not_both (join_from o (f ∷ fs ++ more)) records 61 e (q.1 (fs ++ more))
        ]

-- what 60 says of a fragment, or 62, is not what 61 says of it
not_61 : (index : ℕ) (front : List Fragment) (f : Fragment) → is_negative f.stream ≡ true → IsWholeCut front ⊎ HasOpenStream index front f
    → (is_negative f.stream ≡ false) ⊎ ((¬ IsWholeCut front) × (¬ HasOpenStream index front f)) → ⊥
not_61 index front f negated had (inl positive) = both_ways (is_negative f.stream) positive negated
not_61 index front f negated (inl whole) (inr other) = other.0 whole
not_61 index front f negated (inr open_stream) (inr other) = other.1 open_stream

-- a fragment whose stream is not negated has the fault number 61 alone
positive_is_61 : (index : ℕ) (front : List Fragment) (f : Fragment) (n : ℕ) → is_negative f.stream ≡ false → IsFaultNumber index front f n → n ≡ 61
positive_is_61 index front f n positive (inl a) = absurd (both_ways (is_negative f.stream) positive a.1)
positive_is_61 index front f n positive (inr (inl a)) = a.0
positive_is_61 index front f n positive (inr (inr a)) = absurd (both_ways (is_negative f.stream) positive a.1)

-- a fragment has one fault number at most
one_fault_number : (index : ℕ) (front : List Fragment) (f : Fragment) (m n : ℕ) → IsFaultNumber index front f m → IsFaultNumber index front f n → m ≡ n
one_fault_number index front f m n (inl a) (inl b) = a.0 ∙ sym b.0
one_fault_number index front f m n (inl a) (inr (inl b)) = absurd (not_61 index front f a.1 (inl a.2) b.1)
one_fault_number index front f m n (inl a) (inr (inr b)) = absurd (b.2 a.2)
one_fault_number index front f m n (inr (inl a)) (inl b) = absurd (not_61 index front f b.1 (inl b.2) a.1)
one_fault_number index front f m n (inr (inl a)) (inr (inl b)) = a.0 ∙ sym b.0
one_fault_number index front f m n (inr (inl a)) (inr (inr b)) = absurd (not_61 index front f b.1 (inr b.3) a.1)
one_fault_number index front f m n (inr (inr a)) (inl b) = absurd (a.2 b.2)
one_fault_number index front f m n (inr (inr a)) (inr (inl b)) = absurd (not_61 index front f a.1 (inr a.3) b.1)
one_fault_number index front f m n (inr (inr a)) (inr (inr b)) = a.0 ∙ sym b.0

-- after a walk, the fault is what joining is refused with
fault_is_refused : (index : ℕ) (front : List Fragment) (o : Option Begun) (given : List Record) (back : List Fragment) (n : ℕ) → HasWalked index front o given
    → AllByRecursion (IsFragmentFor index) back → IsFaultBehind index front back n → join_from o back ≡ Err n
unfolding join_from
fault_is_refused index front None given [] n w each fault = absurd (fault.1 (given, ends_whole index front given w))
fault_is_refused index front (Some b) given [] n w each fault = ap (λ (k : ℕ). Err k) (sym fault.0)
fault_is_refused index front o given (f ∷ fs) n w each fault = go (with_fragment o f) refl
  where
    go : (r : Result Begun ℕ) → with_fragment o f ≡ r → join_from o (f ∷ fs) ≡ Err n
    go (Err m) is = step_err o f fs m is ∙ ap (λ (k : ℕ). Err k) (one_fault_number index front f m n (fault_number index front o given f m w each.0 is) fault.1)
    go (Ok d) is =
        elim (steps_or_stays_open index front o given f d w each.0 is) [
          | inl s ↦ absurd (fault.0 (does_begin index (front ++ f ∷ []) s.0 (given ++ given_out d) s.2))
          | inr q ↦ q.1 fs ∙ ap (λ (k : ℕ). Err k) (sym (positive_is_61 index front f n q.0 fault.1))
        ]

-- a first fault's number is what joining is refused with
first_fault_is_refused : (index : ℕ) (fragments : List Fragment) (number : ℕ) → AllByRecursion (IsFragmentFor index) fragments → IsFirstFault index fragments number
    → join_from None fragments ≡ Err number
first_fault_is_refused index fragments number each first =
    let parts = all_of_append (IsFragmentFor index) first.front first.back (subst (λ (fs : List Fragment). AllByRecursion (IsFragmentFor index) fs) first.joined each) in
    let walk = walks_over index [] None [] first.front first.begins.0 first.begins.1 (at_the_start index) parts.0 (cut_is_joined first.begins.1 (first.front ++ first.begins.0) first.begins.3) in
    ap (λ (fs : List Fragment). join_from None fs) first.joined ∙ walk.2.walked first.back
    ∙ ap (λ r. r >>= λ records. Ok (walk.1 ++ records)) (fault_is_refused index first.front walk.0 walk.1 first.back number walk.2 parts.1 first.fault)

pub join_faults_are_first_lem : JoinFaultsAreFirst
unfolding join
join_faults_are_first_lem index fragments number each = (
  first_fault index [] None [] fragments number (at_the_start index) each,
  first_fault_is_refused index fragments number each,
)
