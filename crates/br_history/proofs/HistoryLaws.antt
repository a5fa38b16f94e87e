-- A history that grows by a job, and the numbers and sessions that it keeps with its jobs.
use Rattle.std.proofs.Common.{◌≡◌, ℕ, Bool, true, false, not, ◌&&◌, ◌||◌, cond, eqb, List, [], ◌∷◌, ◌++◌, Ok, Err, ◌-◌, take, length, length-append, arith, refl, sym, ap, ◌∙◌}
use Rattle.std.proofs.lemmas.Bool.{and_from, and_parts, or_from, eqb-true}
use Rattle.std.proofs.lemmas.List.{take-append-le, take_all}
use Rattle.std.proofs.lemmas.List.Folds.{list_any-append, list_all-append}
use Rattle.std.specs.Cmp.{unsigned_tied}
use Rattle.std.specs.List.{AllByRecursion, list_any, list_all}
use Rattle.std.specs.Ordering.{nat_cmp}
use Rattle.std.specs.BTreeSet.{BTreeSet, contains, Updates}
use Rattle.br_model.specs.Name.{SessionKey, same_session, session_cmp}
use Rattle.br_model.specs.Job.{JobRows, are_rows, no_pair, clash, pushed}
use Rattle.br_model.proofs.ListLaws.{holds_of_none, none_pass}
use Rattle.br_history.specs.Taken.{AreTaken, AddsId, AddsSession, SameIds, SameSessions}
use Rattle.br_history.proofs.ClashLaws.{no_pair_push}
use Rattle.br_history.proofs.BoolLaws.{or_false, true_or}

-- ---- sets that grow by one

-- a number inserted into a set
pub adds_id : (old new : BTreeSet ℕ) (id : ℕ) → Updates nat_cmp old new id true → AddsId old id new
adds_id old new id puts q = puts.0 q ∙ ap (λ b. cond b true (contains nat_cmp old q)) (unsigned_tied id q) ∙ true_or (eqb id q) (contains nat_cmp old q)

taken_away : (b d : Bool) → (b ≡ true → d ≡ false) → cond b false (d || b) ≡ d
taken_away true d lacks = sym (lacks refl)
taken_away false d lacks = or_false d

-- a number that was inserted into a set without it, and was removed
pub id_taken_away : (old middle new : BTreeSet ℕ) (id : ℕ) → contains nat_cmp old id ≡ false → Updates nat_cmp old middle id true → Updates nat_cmp middle new id false → SameIds old new
id_taken_away old middle new id lacks puts takes q =
    takes.0 q ∙ ap (λ b. cond b false (contains nat_cmp middle q)) (unsigned_tied id q)
    ∙ ap (λ b. cond (eqb id q) false b) (adds_id old middle id puts q)
    ∙ taken_away (eqb id q) (contains nat_cmp old q) (λ e. ap (contains nat_cmp old) (sym (eqb-true id q e)) ∙ lacks)

-- ---- pushes

-- a job whose number is there
pub pushed_with_id : (jobs : List JobRows) (j : JobRows) → list_any (λ (k : JobRows). eqb k.row.id j.row.id) jobs ≡ true → pushed jobs j ≡ Err 40
unfolding pushed
pushed_with_id jobs j there = rw there refl

-- a job whose session is there, and its number is not
pub pushed_with_session : (jobs : List JobRows) (j : JobRows) → list_any (λ (k : JobRows). eqb k.row.id j.row.id) jobs ≡ false
    → list_any (λ (k : JobRows). same_session k.row.session j.row.session) jobs ≡ true → pushed jobs j ≡ Err 41
unfolding pushed
pushed_with_session jobs j absent there = rw (absent, there) refl

-- a job of which neither is there
pub pushed_new : (jobs : List JobRows) (j : JobRows) → list_any (λ (k : JobRows). eqb k.row.id j.row.id) jobs ≡ false
    → list_any (λ (k : JobRows). same_session k.row.session j.row.session) jobs ≡ false → pushed jobs j ≡ Ok (jobs ++ j ∷ [])
unfolding pushed
pushed_new jobs j absent missing = rw (absent, missing) refl

none_of_two : (p q : JobRows → Bool) (jobs : List JobRows) → list_any p jobs ≡ false → list_any q jobs ≡ false → list_any (λ k. p k || q k) jobs ≡ false
none_of_two p q jobs a b = holds_of_none (λ k. p k || q k) jobs (none_pass_both jobs (none_pass p jobs a) (none_pass q jobs b))
  where
    none_pass_both : (ks : List JobRows) → AllByRecursion (λ k. p k ≡ false) ks → AllByRecursion (λ k. q k ≡ false) ks → AllByRecursion (λ k. (p k || q k) ≡ false) ks
    none_pass_both [] h k = tt
    none_pass_both (k ∷ ks) h g = (or_from (p k) (q k) h.0 g.0, none_pass_both ks h.1 g.1)

-- with a new job the history is one, and the sets are its own
pub taken_more : (jobs : List JobRows) (ids new_ids : BTreeSet ℕ) (sessions new_sessions : BTreeSet SessionKey) (j : JobRows) → AreTaken jobs ids sessions → are_rows j ≡ true
    → contains nat_cmp ids j.row.id ≡ false → contains session_cmp sessions j.row.session ≡ false
    → AddsId ids j.row.id new_ids → AddsSession sessions j.row.session new_sessions → AreTaken (jobs ++ j ∷ []) new_ids new_sessions
taken_more jobs ids new_ids sessions new_sessions j are rows absent missing id session =
    let parts = and_parts (list_all are_rows jobs) (no_pair clash jobs) are.history in
    let by_id : JobRows → Bool = λ k. eqb k.row.id j.row.id in
    let by_session : JobRows → Bool = λ k. same_session k.row.session j.row.session in
    let none = none_of_two by_id by_session jobs (sym (are.has_ids j.row.id) ∙ absent) (sym (are.has_sessions j.row.session) ∙ missing) in
    record {
      history =
          and_from (list_all are_rows (jobs ++ j ∷ [])) (no_pair clash (jobs ++ j ∷ []))
          (list_all-append are_rows jobs (j ∷ []) ∙ and_from (list_all are_rows jobs) (are_rows j && true) parts.0 (and_from (are_rows j) true rows refl))
          (no_pair_push clash jobs j ∙ and_from (no_pair clash jobs) (not (list_any (λ k. clash k j) jobs)) parts.1 (ap not none));
      has_ids = λ q.
          id q ∙ ap (λ b. b || eqb j.row.id q) (are.has_ids q)
          ∙ ap (λ b. list_any (λ (k : JobRows). eqb k.row.id q) jobs || b) (sym (or_false (eqb j.row.id q)))
          ∙ sym (list_any-append (λ (k : JobRows). eqb k.row.id q) jobs (j ∷ []));
      has_sessions = λ q.
          session q ∙ ap (λ b. b || same_session j.row.session q) (are.has_sessions q)
          ∙ ap (λ b. list_any (λ (k : JobRows). same_session k.row.session q) jobs || b) (sym (or_false (same_session j.row.session q)))
          ∙ sym (list_any-append (λ (k : JobRows). same_session k.row.session q) jobs (j ∷ []));
    }

-- sets of the same numbers and sessions do as well
pub taken_same : (jobs : List JobRows) (ids new_ids : BTreeSet ℕ) (sessions new_sessions : BTreeSet SessionKey) → AreTaken jobs ids sessions → SameIds ids new_ids → SameSessions sessions new_sessions
    → AreTaken jobs new_ids new_sessions
taken_same jobs ids new_ids sessions new_sessions are id session = record {
  history = are.history;
  has_ids = λ q. id q ∙ are.has_ids q;
  has_sessions = λ q. session q ∙ are.has_sessions q;
}

-- ---- what the sets answer

-- whether a job's number is there, by the set
pub has_number : (jobs all : List JobRows) (ids : BTreeSet ℕ) (sessions : BTreeSet SessionKey) (j : JobRows) (id : ℕ) (b : Bool) → AreTaken jobs ids sessions → jobs ≡ all
    → id ≡ j.row.id → b ≡ contains nat_cmp ids id → list_any (λ (k : JobRows). eqb k.row.id j.row.id) all ≡ b
has_number jobs all ids sessions j id b are same of answer =
    ap (λ (ks : List JobRows). list_any (λ (k : JobRows). eqb k.row.id j.row.id) ks) (sym same) ∙ sym (are.has_ids j.row.id) ∙ ap (contains nat_cmp ids) (sym of) ∙ sym answer

-- whether a job's session is there, by the set
pub has_session : (jobs all : List JobRows) (ids : BTreeSet ℕ) (sessions : BTreeSet SessionKey) (j : JobRows) (s : SessionKey) (b : Bool) → AreTaken jobs ids sessions → jobs ≡ all
    → s ≡ j.row.session → b ≡ contains session_cmp sessions s → list_any (λ (k : JobRows). same_session k.row.session j.row.session) all ≡ b
has_session jobs all ids sessions j s b are same of answer =
    ap (λ (ks : List JobRows). list_any (λ (k : JobRows). same_session k.row.session j.row.session) ks) (sym same) ∙ sym (are.has_sessions j.row.session)
    ∙ ap (contains session_cmp sessions) (sym of) ∙ sym answer

-- a list that grew by an element and lost its last one is as it was
pub as_it_was : {X : Type 0} (before grown : List X) (x : X) → grown ≡ before ++ x ∷ [] → take (length grown - 1) grown ≡ before
as_it_was before grown x e =
    let long : length grown - 1 ≡ length before = omega (arith, ap length e, length-append before (x ∷ [])) in
    ap (λ n. take n grown) long ∙ ap (take (length before)) e ∙ take-append-le (length before) before (x ∷ []) (omega arith) ∙ take_all (length before) before (omega arith)
