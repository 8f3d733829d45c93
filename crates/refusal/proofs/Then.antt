-- Laws of `and_then`: what follows an answer that follows another (`then_then`), what is known where the last is given (`then_given`), and
-- that what follows is the same where it is the same of what is given (`then_agree`).
use mathlib.Core.Path.{◌≡◌, refl}
use Prim.Native.Nat.{ℕ}
use native.Mathlib.Omega.{arith}
use Rattle.refusal.specs.Answer.{Answer, given, refused, and_then}

pub then_then : {A B C : Type 0} (answer : Answer A) (f : A → Answer B) (g : B → Answer C)
    → and_then (and_then answer f) g ≡ and_then answer (λ (x : A). and_then (f x) g)
then_then (given x) f g = refl
then_then (refused fault) f g = refl

pub then_given : {A B P : Type 0} (answer : Answer A) {rest : A → Answer B} {y : B} → and_then answer rest ≡ given y
    → ((x : A) → answer ≡ given x → rest x ≡ given y → P) → P
then_given (given x) e then = then x refl e
then_given (refused fault) e then = let never : ◌≡◌ {A = ℕ} 0 1 = cc e in absurd (omega arith)

pub then_agree : {A B : Type 0} (answer : Answer A) {f g : A → Answer B} → ((x : A) → answer ≡ given x → f x ≡ g x) → and_then answer f ≡ and_then answer g
then_agree (given x) same = same x refl
then_agree (refused fault) same = refl
