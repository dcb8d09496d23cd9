-- Options that came to an answer.
use Rattle.std.proofs.Common.{◌≡◌, Bool, true, false, cond, Some, None, Option, refl}
use Rattle.script.specs.Format.{after}

pub some_is : {A : Type 0} {x y : A} → ◌≡◌ {A = Option A} (Some x) (Some y) → x ≡ y
some_is e = cc

pub never : {A B : Type 0} (x : A) → ◌≡◌ {A = Option A} None (Some x) → B
never x e = cc

pub after_is : {A B : Type 0} (o : Option A) (f : A → Option B) {b : B} → after o f ≡ Some b → (a : A) × (o ≡ Some a) × (f a ≡ Some b)
after_is None f e = never _ e
after_is (Some a) f e = (a, refl, e)

pub cond_is : {A : Type 0} (t : Bool) {x a : A} → cond t (Some x) None ≡ Some a → (t ≡ true) × (x ≡ a)
cond_is true e = (refl, some_is e)
cond_is false e = never _ e
