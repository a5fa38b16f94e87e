-- Beginnings of one list.
use Rattle.std.proofs.Common.{◌≡◌, ℕ, ◌+◌, ◌≤◌, List, [], ◌∷◌, ◌++◌, length, Some, None, refl, ap, sym, ◌∙◌, arith, append_assoc, length-append}
use mathlib.Core.List.{IsPrefix}
use Rattle.br_model.specs.Job.{JobRows}
use Rattle.br_keeper.specs.Beginnings.{last_id}
use Rattle.br_keeper.specs.Sessions.{ReceiptsAreShown}

pub prefix_trans : {A : Type 0} (xs ys zs : List A) → IsPrefix xs ys → IsPrefix ys zs → IsPrefix xs zs
prefix_trans xs ys zs p q = (p.0 ++ q.0, sym (append_assoc xs p.0 q.0) ∙ (ap (λ w. w ++ q.0) p.1 ∙ q.1))

-- of two beginnings of one list the shorter begins the longer
pub prefix_shorter : {A : Type 0} (xs ys zs : List A) → IsPrefix xs zs → IsPrefix ys zs → length xs ≤ length ys → IsPrefix xs ys
prefix_shorter [] ys zs p q le = (ys, refl)
prefix_shorter (x ∷ xs) [] zs p q le = absurd (omega arith)
prefix_shorter (x ∷ xs) (y ∷ ys) [] p q le = absurd (cc (p.1))
prefix_shorter (x ∷ xs) (y ∷ ys) (z ∷ zs) p q le =
    let heads : x ≡ y = cc (p.1, q.1) in
    let rest = prefix_shorter xs ys zs (p.0, cc (p.1)) (q.0, cc (q.1)) (omega arith) in
    (rest.0, cc (heads, rest.1))

-- a beginning as long as the whole is the whole
pub prefix_whole : {A : Type 0} (xs ys : List A) → IsPrefix xs ys → length ys ≤ length xs → xs ≡ ys
prefix_whole [] [] p le = refl
prefix_whole [] (y ∷ ys) p le = absurd (omega arith)
prefix_whole (x ∷ xs) [] p le = absurd (cc (p.1))
prefix_whole (x ∷ xs) (y ∷ ys) p le =
    let rest = prefix_whole xs ys (p.0, cc (p.1)) (omega arith) in cc (p.1, rest)

pub prefix_length : {A : Type 0} (xs ys : List A) → IsPrefix xs ys → length xs ≤ length ys
prefix_length xs ys p = omega (arith, sym (ap length p.1) ∙ length-append xs p.0)

pub receipts_are_shown_lem : ReceiptsAreShown
receipts_are_shown_lem receipt learned shown told more =
    prefix_length receipt.log shown.list (prefix_trans receipt.log learned.list shown.list told more.1)

-- the last job of a list that one was added to
pub last_of_added : (jobs : List JobRows) (job : JobRows) → last_id (jobs ++ job ∷ []) ≡ Some job.row.id
last_of_added [] job = refl
last_of_added (x ∷ []) job = refl
last_of_added (x ∷ y ∷ jobs) job = last_of_added (y ∷ jobs) job

-- a list without a last job is empty
pub no_last : (jobs : List JobRows) → None ≡ last_id jobs → jobs ≡ []
no_last [] e = refl
no_last (x ∷ []) e = absurd (cc)
no_last (x ∷ y ∷ jobs) e = absurd (cc (no_last (y ∷ jobs) e))

-- a beginning no longer than another beginning of the same list begins it
pub prefix_within : {A : Type 0} (xs ys zs ws : List A) → IsPrefix xs zs → IsPrefix ys zs → IsPrefix zs ws → length ws ≤ length ys → IsPrefix xs ys
prefix_within xs ys zs ws p q r le =
    let a = prefix_length xs zs p in
    let b = prefix_length zs ws r in
    prefix_shorter xs ys zs p q (omega (arith, a, b, le))

-- the length and the last job of a list that one was added to
pub front_of_added : (count : ℕ) (old new : List JobRows) (job : JobRows) (id : ℕ) → count ≡ length old → new ≡ old ++ job ∷ [] → id ≡ job.row.id
    → (count + 1 ≡ length new) × (Some id ≡ last_id new)
front_of_added count old new job id counted is same = rw is
    (omega (arith, counted, length-append old (job ∷ [])), ap (λ (n : ℕ). Some n) same ∙ sym (last_of_added old job))
