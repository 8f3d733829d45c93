-- Rules 14.14 and 14.24: element k of a list is refused past its end (element_past), and else the one at k, also of what is made of each
-- (element_map). Of two lists one behind the other it stands in the first (element_front) or in the second (element_behind).
use mathlib.Core.Path.{◌≡◌, refl}
use mathlib.Core.List.{List, [], ◌∷◌, ◌++◌, map}
use Prim.Native.Nat.{ℕ, zero, suc, ◌-◌, ◌<◌, ◌≤◌}
use native.Mathlib.Nat.{sub-zero}
use native.Mathlib.Omega.{arith}
use lib.ListN.{length, get_or}
use Rattle.refusal.specs.Fault.{fault}
use Rattle.refusal.specs.Answer.{given, refused}
use Rattle.anlz.specs.Element.{element_at}

pub element_past : {A : Type 0} (k : ℕ) (xs : List A) → length xs ≤ k → element_at k xs ≡ refused (fault 18 0)
unfolding element_at
element_past k [] h = refl
element_past zero (x ∷ xs) h = absurd (omega arith)
element_past (suc k) (x ∷ xs) h = element_past k xs (omega arith)

pub element_map : {A B : Type 0} (f : A → B) (d : A) (k : ℕ) (xs : List A) → k < length xs → element_at k (map f xs) ≡ given (f (get_or xs k d))
unfolding element_at
element_map f d k [] h = absurd (omega arith)
element_map f d zero (x ∷ xs) h = refl
element_map f d (suc k) (x ∷ xs) h = element_map f d k xs (omega arith)

pub element_front : {A : Type 0} (k : ℕ) (xs ys : List A) → k < length xs → element_at k (xs ++ ys) ≡ element_at k xs
unfolding element_at
element_front k [] ys h = absurd (omega arith)
element_front zero (x ∷ xs) ys h = refl
element_front (suc k) (x ∷ xs) ys h = element_front k xs ys (omega arith)

pub element_behind : {A : Type 0} (k : ℕ) (xs ys : List A) → length xs ≤ k → element_at k (xs ++ ys) ≡ element_at (k - length xs) ys
unfolding element_at
element_behind k [] ys h = rw (sub-zero k)
element_behind zero (x ∷ xs) ys h = absurd (omega arith)
element_behind (suc k) (x ∷ xs) ys h = let e : suc k - suc (length xs) ≡ k - length xs = omega arith in rw e (element_behind k xs ys (omega arith))
