-- Laws of `nth`.
--     nth_none, nth_first, nth_skip     of no element; element 0; past the first element
--     nth_element, nth_past             what it says of the list
--     nth_front, past_front             of two lists, one behind the other
use mathlib.Core.Path.{◌≡◌, ap, ◌∙◌}
use mathlib.Core.List.{List, [], ◌∷◌, ◌++◌}
use Prim.Native.Nat.{ℕ, suc, ◌+◌, ◌-◌, ◌<◌, ◌≤◌}
use native.Mathlib.Omega.{arith}
use lib.ListN.{length, get_or, length-append, get_or-append}
use lib.Seq.{get_or-append-add}
use lib.Dec.{ltb, leb-suc-suc, leb-suc-zero}
use borrow.Author.Tests.{lt-ltb, le-ltb, ltb-true, ltb-false}
use Rattle.lists.specs.Nth.{element, past, nth}
use Rattle.lists.proofs.Choice.{on, never}

module _ {A : Type 0} (none : A) where
  pub nth_none : (k before : ℕ) → nth none [] k before ≡ past before
  nth_none k before = let z : before + 0 ≡ before = omega arith in rw (leb-suc-zero k, z)

  pub nth_first : (x : A) (xs : List A) (before : ℕ) → nth none (x ∷ xs) 0 before ≡ element x
  nth_first x xs before = rw (lt-ltb 0 (suc (length xs)) (omega arith))

  pub nth_skip : (x : A) (xs : List A) (k before : ℕ) → nth none (x ∷ xs) (suc k) before ≡ nth none xs k (before + 1)
  nth_skip x xs k before =
      let z : before + suc (length xs) ≡ before + 1 + length xs = omega arith in
      rw (leb-suc-suc (suc k) (length xs), z)

  -- where it is an element, it is the one at k; where it is past, the list has no more
  pub nth_element : (xs : List A) (k before : ℕ) {x : A} → element x ≡ nth none xs k before → (k < length xs) × (x ≡ get_or xs k none)
  nth_element xs k before {x} e =
      on (ltb k (length xs)) (λ h. (ltb-true k (length xs) h, cc (rw h at e))) (λ h. never (cc (rw h at e)))

  pub nth_past : (xs : List A) (k before : ℕ) {n : ℕ} → past n ≡ nth none xs k before → (length xs ≤ k) × (n ≡ before + length xs)
  nth_past xs k before {n} e =
      on (ltb k (length xs)) (λ h. never (cc (rw h at e))) (λ h. (ltb-false k (length xs) h, cc (rw h at e)))

  module _ (xs ys : List A) (k before : ℕ) where
    pub nth_front : {x : A} → element x ≡ nth none xs k 0 → element x ≡ nth none (xs ++ ys) k before
    nth_front {x} e =
        let at = nth_element xs k 0 e in
        let inside = at.0 in
        rw (length-append xs ys, lt-ltb k (length xs + length ys) (omega arith), get_or-append xs ys none k inside, at.1)

    pub past_front : {n : ℕ} → past n ≡ nth none xs k 0 → (n ≤ k) × (nth none (xs ++ ys) k before ≡ nth none ys (k - n) (before + n))
    past_front {n} e = let all = nth_past xs k 0 e in behind all.1 all.0
      where
        behind : n ≡ 0 + length xs → length xs ≤ k → (n ≤ k) × (nth none (xs ++ ys) k before ≡ nth none ys (k - n) (before + n))
        behind count h =
            let back : k ≡ length xs + (k - n) = omega arith in
            let get : get_or (xs ++ ys) k none ≡ get_or ys (k - n) none = ap (λ (j : ℕ). get_or (xs ++ ys) j none) back ∙ get_or-append-add xs ys (k - n) none in
            let sum : before + (length xs + length ys) ≡ before + n + length ys = omega arith in (
              omega arith,
              on (ltb (k - n) (length ys))
                  (λ g. let l = ltb-true (k - n) (length ys) g in rw (length-append xs ys, lt-ltb k (length xs + length ys) (omega arith), g, get))
                  (λ g. let l = ltb-false (k - n) (length ys) g in rw (length-append xs ys, le-ltb k (length xs + length ys) (omega arith), g, sum)),
            )
