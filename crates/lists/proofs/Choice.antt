-- Tests and what they choose: the facts that every layer cites.
--     tests          the set that turns a fact into the value of a test
--     on             the two cases of a test, each with its equation
--     cond_holds     what holds of the branch that is taken holds of the choice
--     cond_agree     two choices by one test are equal where the branches that it takes are
--     or_left, or_right     a disjunction from one of its sides
--     never          anything, from two constructors that would be equal
--     both_true      the parts of a conjunction that is true
--     left_step      what is left from i, where i is below n, is one more than what is left from i + 1
use mathlib.Core.Path.{◌≡◌, refl}
use mathlib.Core.Bool.{Bool, true, false, cond, ◌&&◌, ◌||◌, or-true}
use Prim.Native.Nat.{ℕ, suc, ◌+◌, ◌-◌, ◌<◌}
use native.Mathlib.Omega.{arith}
use borrow.Author.Tests.{lt-ltb, le-ltb, le-leb, lt-leb, eq-eqb, ne_eqb}

pub ruleset tests = (lt-ltb, le-ltb, le-leb, lt-leb, eq-eqb, ne_eqb, arith)

pub on {ℓ} : {P : Type ℓ} (b : Bool) → (b ≡ true → P) → (b ≡ false → P) → P
on true f g = f refl
on false f g = g refl

pub cond_holds : {A : Type 0} (P : A → Type 0) (b : Bool) {x y : A} → (b ≡ true → P x) → (b ≡ false → P y) → P (cond b x y)
cond_holds P true f g = f refl
cond_holds P false f g = g refl

pub cond_agree : {A : Type 0} {x x' y y' : A} (b : Bool) → (b ≡ true → x ≡ x') → (b ≡ false → y ≡ y') → cond b x y ≡ cond b x' y'
cond_agree true f g = f refl
cond_agree false f g = g refl

pub or_left : {a : Bool} (b : Bool) → a ≡ true → (a || b) ≡ true
or_left b e = rw e

pub or_right : (a : Bool) {b : Bool} → b ≡ true → (a || b) ≡ true
or_right a e = rw (e, or-true a)

pub or_more : (a : Bool) {b c : Bool} → (b ≡ true → c ≡ true) → (a || b) ≡ true → (a || c) ≡ true
or_more a f e = on a (λ h. or_left _ h) (λ h. or_right a (f (rw h at e)))

-- two constructors are never equal: `cc` gives 0 ≡ 1, and anything follows
pub never {ℓ} : {A : Type ℓ} → ◌≡◌ {A = ℕ} 0 1 → A
never z = absurd (omega arith)

pub both_true : (a b : Bool) → (a && b) ≡ true → (a ≡ true) × (b ≡ true)
both_true true b e = (refl, e)
both_true false b e = never (cc)

pub left_step : {i n : ℕ} → i < n → n - i ≡ suc (n - (i + 1))
left_step h = omega arith
