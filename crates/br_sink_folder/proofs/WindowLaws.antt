-- Files that are held open.
use Rattle.std.proofs.Common.{◌≡◌, ℕ, ◌<◌, ◌≤◌, ◌++◌, ◌∷◌, [], List, length, get_or, set, take, ◌+◌, ap, sym, subst, ◌∙◌, arith, Result, Ok, Err, OnErr, OnOk}
use Rattle.std.proofs.lemmas.List.Elements.{All-push, All-set}
use Rattle.std.proofs.lemmas.List.{take_more}
use Rattle.br_sink_folder.specs.Held.{AreAnswered}
use Rattle.br_sink_folder.specs.Window.{AreBelow}
use Rattle.br_sink_folder.specs.declared.window.Made.{Made}
use Rattle.br_sink_folder.proofs.HeldLaws.{all_more}

-- what is below a place is below a later one
pub below_more : {W : Type 0} (m n : ℕ) (made : List (Made W)) → m ≤ n → AreBelow m made → AreBelow n made
below_more m n made more below = λ k d less. let b = below k d less in omega (arith, b, more)

pub below_push : {W : Type 0} (n : ℕ) (made after : List (Made W)) (one : Made W) → after ≡ made ++ one ∷ [] → AreBelow n made
    → one.place < n → AreBelow n after
below_push n made after one is below less = subst (AreBelow n) (sym is) (All-push (λ (m : Made _). m.place < n) made one below less)

-- one of them has changed, and has its place still
pub below_set : {W : Type 0} (n i : ℕ) (made : List (Made W)) (old new : Made W) → AreBelow n made → old ≡ get_or made i old
    → i < length made → new.place ≡ old.place → AreBelow n (set made i new)
below_set n i made old new below is less same =
    let was = below i old less in
    let place = ap (λ (m : Made _). m.place) is in
    All-set (λ (m : Made _). m.place < n) made i new (omega (arith, was, place, same)) below

pub on_ok_known : {T E P : Type 0} (r : Result T E) → P → OnOk r P
on_ok_known (Ok x) p = p
on_ok_known (Err e) p = tt

pub on_err_known : {T E P : Type 0} (r : Result T E) → P → OnErr r P
on_err_known (Ok x) p = tt
on_err_known (Err e) p = p

-- one more was looked at, and has no fault
pub answered_more : {W : Type 0} (made : List (Made W)) (i : ℕ) (one : Made W) → AreAnswered (take i made) → i < length made
    → one ≡ get_or made i one → one.answer ≡ Ok tt → AreAnswered (take (i + 1) made)
answered_more made i one answered low is ok =
    subst (λ (l : List (Made _)). AreAnswered l) (sym (take_more made i one low ∙ ap (λ (o : Made _). take i made ++ o ∷ []) (sym is)))
    (all_more (λ (m : Made _). m.answer ≡ Ok tt) (take i made) one answered ok)
