-- What calls one after another leave of a store that may be shut.
use Rattle.std.proofs.Common.{Result, Ok, Err, IfOk, IfErr, OnOk, OnErr, sym, ◌∙◌}
use Rattle.sqlite.specs.State.{State, KeepsCommit}
use Rattle.br_store.specs.Calls.{IsSettled, Stays}

pub from_both : {T E P Q R : Type 0} (r : Result T E) → OnOk r P → OnErr r Q → (P → R) → (Q → R) → R
from_both (Ok x) p q f g = f p
from_both (Err e) p q f g = g q

pub from_each : {T E R : Type 0} (r : Result T E) (P : T → Type 0) (Q : E → Type 0) → IfOk r P → IfErr r Q → ((x : T) → P x → R) → ((e : E) → Q e → R) → R
from_each (Ok x) P Q p q f g = f x p
from_each (Err e) P Q p q f g = g e q

pub stays : (old new : State) → IsSettled old → IsSettled new → KeepsCommit old new → Stays old new
stays old new before after kept up =
    let was = kept.was_open up in
    let same = kept.committed up in
    (was, after up ∙ same ∙ sym (before was), same)

pub stays_both : (a b c : State) → Stays a b → Stays b c → Stays a c
stays_both a b c one two up =
    let later = two up in
    let first = one later.0 in
    (first.0, later.1 ∙ first.1, later.2 ∙ first.2)

-- what holds, holds if a call was refused
pub err_with : {T E P : Type 0} (r : Result T E) → P → OnErr r P
err_with (Ok x) p = tt
err_with (Err e) p = p
