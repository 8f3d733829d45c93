-- Equality of two lists of bytes as a test (specs/Equal): it is that of two slices, and what it decides.
--     equal_is                     the test that `==` of two slices makes
--     equal_true, equal_refl       the test is true exactly when the lists are equal
use mathlib.Core.Path.{◌≡◌, refl, ap}
use mathlib.Core.Bool.{Bool, true, ◌&&◌}
use mathlib.Core.List.{List, [], ◌∷◌}
use Prim.Native.Nat.{ℕ}
use lib.Dec.{eqb}
use borrow.Author.Tests.{eqb-true, eq-eqb}
use Rattle.std.specs.Cmp.Lexicographic.{pointwise}
use Rattle.intake.specs.Equal.{equal}
use Rattle.lists.proofs.Choice.{never, both_true}

pub equal_is : (a b : List ℕ) → pointwise eqb a b ≡ equal a b
unfolding equal
equal_is [] [] = refl
equal_is [] (y ∷ t) = refl
equal_is (x ∷ s) [] = refl
equal_is (x ∷ s) (y ∷ t) = ap (λ (b : Bool). eqb x y && b) (equal_is s t)

pub equal_true : (a b : List ℕ) → equal a b ≡ true → a ≡ b
unfolding equal
equal_true [] [] e = refl
equal_true [] (y ∷ t) e = never (cc)
equal_true (x ∷ s) [] e = never (cc)
equal_true (x ∷ s) (y ∷ t) e =
    let both = both_true (eqb x y) (equal s t) e in
    rw (eqb-true x y both.0, equal_true s t both.1)

pub equal_refl : (a : List ℕ) → equal a a ≡ true
unfolding equal
equal_refl [] = refl
equal_refl (x ∷ s) = rw (eq-eqb x x refl, equal_refl s)
