-- What an answer that was not refused, or an option that has a value, says of its steps.
use Rattle.std.proofs.Common.{◌≡◌, Bool, true, false, cond, Option, Some, None, Result, Ok, Err, refl, inl, inr, ◌⊎◌}
use Rattle.std.specs.Prelude.{option_map, option_and_then}
use Rattle.br_model.specs.Answer.{◌>>=◌, refuse_if, some_or, refused_as}

-- the value of the first step, and the second step's answer
pub bind_ok : {A B E : Type 0} (r : Result A E) (f : A → Result B E) (y : B) → (r >>= f) ≡ Ok y → (x : A) × (r ≡ Ok x) × (f x ≡ Ok y)
bind_ok (Ok x) f y e = (x, refl, e)
bind_ok (Err d) f y e = absurd cc

-- a test that did not refuse
pub refuse_ok : {B E : Type 0} (b : Bool) (d : E) (f : Unit {0} → Result B E) (y : B) → (refuse_if b d >>= f) ≡ Ok y → (b ≡ false) × (f tt ≡ Ok y)
refuse_ok true d f y e = absurd cc
refuse_ok false d f y e = (refl, e)

pub refused_as_ok : {A D E : Type 0} (f : D → E) (r : Result A D) (x : A) → refused_as f r ≡ Ok x → r ≡ Ok x
refused_as_ok f (Ok y) x e = cc
refused_as_ok f (Err d) x e = absurd cc

pub ok_is : {A E : Type 0} (x y : A) → ◌≡◌ {A = Result A E} (Ok x) (Ok y) → x ≡ y
ok_is x y e = cc

-- a choice of two answers
pub chosen : {A : Type 0} (b : Bool) (x y z : A) → cond b x y ≡ z → ((b ≡ true) × (x ≡ z)) ⊎ ((b ≡ false) × (y ≡ z))
chosen true x y z e = inl (refl, e)
chosen false x y z e = inr (refl, e)

pub err_is : {A E : Type 0} (m n : E) → ◌≡◌ {A = Result A E} (Err m) (Err n) → m ≡ n
err_is m n e = cc

-- an option that is not refused
pub some_or_ok : {A E : Type 0} (o : Option A) (e : E) (x : A) → some_or o e ≡ Ok x → o ≡ Some x
some_or_ok (Some y) e x h = cc
some_or_ok None e x h = absurd cc

pub err_is_not_ok : {A E : Type 0} (e : E) (x : A) → ◌≡◌ {A = Result A E} (Err e) (Ok x) → ⊥
err_is_not_ok e x h = absurd cc

-- what is made of the value of an option comes of its value
pub some_mapped : {X Y : Type 0} (f : X → Y) (o : Option X) (y : Y) → option_map f o ≡ Some y → (x : X) × (o ≡ Some x) × (f x ≡ y)
some_mapped f None y e = absurd cc
some_mapped f (Some x) y e = (x, refl, cc)

-- what a next step gives of an option comes of its value
pub from_next : {X Y : Type 0} (f : X → Option Y) (o : Option X) (y : Y) → option_and_then f o ≡ Some y → (x : X) × (o ≡ Some x) × (f x ≡ Some y)
from_next f None y e = absurd cc
from_next f (Some x) y e = (x, refl, e)
