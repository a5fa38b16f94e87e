-- The sign of a path if no marked path begins with it.
use Rattle.std.proofs.Common.{◌≡◌, ℕ, Bool, true, false, ◌&&◌, cond, List, [], ◌∷◌, ◌++◌, length, drop, sym, ap, subst, refl, ◌∙◌, append_assoc, append-nil, Option, Some, None}
use Rattle.std.proofs.lemmas.Bool.{both_ways, false_from_ne_true}
use Rattle.std.proofs.lemmas.Slice.Eq.{bytes_eq-Decides}
use Rattle.std.specs.Prelude.{bytes_eq, IfNone}
use Rattle.br_model.specs.Name.{is_directory}
use Rattle.br_model.specs.Console.{begins_with, sign}
use Rattle.br_tree.specs.Walk.{NoneBegins, NonePassing}
use Rattle.br_tree.proofs.ChildLaws.{sign_other}
use Rattle.br_tree.proofs.RunLaws.{begins_to, begins_from}
use Rattle.br_tree.proofs.StepLaws.{none_any, none_from_any}

none_further : (d n : List ℕ) (zs : List (List ℕ)) → NonePassing (λ z. begins_with z d) zs → NonePassing (λ z. begins_with z (d ++ n)) zs
none_further d n [] none = tt
none_further d n (z ∷ zs) none = (
  false_from_ne_true (begins_with z (d ++ n))
      (λ e. both_ways (begins_with z d) none.0 (begins_from z d (n ++ drop (length (d ++ n)) z) (begins_to z (d ++ n) e ∙ append_assoc d n (drop (length (d ++ n)) z)))),
  none_further d n zs none.1,
)

none_own : (p : List ℕ) (zs : List (List ℕ)) → NonePassing (λ z. begins_with z p) zs → NonePassing (bytes_eq p) zs
none_own p [] none = tt
none_own p (z ∷ zs) none = (
  false_from_ne_true (bytes_eq p z) (λ e. both_ways (begins_with z p) none.0 (begins_from z p [] (sym ((bytes_eq-Decides p z).0 e) ∙ sym (append-nil p)))),
  none_own p zs none.1,
)

-- if none begins with a text, none begins with the text and more
pub none_begins : (marked : List (List ℕ)) (d n : List ℕ) → NoneBegins marked d → NoneBegins marked (d ++ n)
none_begins marked d n none = none_any (λ z. begins_with z (d ++ n)) marked (none_further d n marked (none_from_any (λ z. begins_with z d) marked none))

pub none_begins_if : {A : Type 0} (o : Option A) (marked : List (List ℕ)) (d n p : List ℕ) → p ≡ d ++ n → IfNone o (NoneBegins marked d) → IfNone o (NoneBegins marked p)
none_begins_if None marked d n p is none = subst (NoneBegins marked) (sym is) (none_begins marked d n none)
none_begins_if (Some x) marked d n p is none = tt

pub if_none_then : {A : Type 0} {P Q : Type 0} (o : Option A) → (P → Q) → IfNone o P → IfNone o Q
if_none_then None so p = so p
if_none_then (Some x) so p = tt

and_false : (b : Bool) → (b && false) ≡ false
and_false true = refl
and_false false = refl

-- then it has no mark
pub plain_sign : (marked : List (List ℕ)) (p : List ℕ) → NoneBegins marked p → 32 ≡ sign marked p
plain_sign marked p none =
    sym (ap (λ b. cond b 43 32) (ap (λ b. is_directory p && b) none ∙ and_false (is_directory p)))
    ∙ sign_other marked p (none_any (bytes_eq p) marked (none_own p marked (none_from_any (λ z. begins_with z p) marked none)))
