-- Laws of `is_member`, and that numbers in 1..n-1 which differ from each other are at most n-1 (the pigeonhole).
--     member_first, member_more, member_cases     a list with one number more
--     no_member, fewer_members                    a number that is no member, and none of a shorter list
--     append_cases, distinct_append               two lists, one behind the other
--     distinct_few                                how many numbers that differ there can be
use mathlib.Core.Path.{◌≡◌, refl, sym, ◌∙◌}
use mathlib.Core.Bool.{true, false, cond, false≢true}
use mathlib.Core.List.{List, [], ◌∷◌, ◌++◌}
use mathlib.Core.Logic.{◌⊎◌, inl, inr, ⊎_elim}
use Prim.Native.Nat.{ℕ, zero, suc, ◌+◌, ◌-◌, ◌<◌, ◌≤◌}
use native.Mathlib.Omega.{arith}
use lib.ListN.{length}
use lib.Dec.{eqb}
use borrow.Author.Tests.{eq-eqb, ne_eqb, eqb-true, eqb-false}
use Rattle.lists.specs.Member.{is_member}
use Rattle.lists.specs.Distinct.{Distinct}
use Rattle.lists.proofs.Choice.{on, or_right}

pub member_first : (x : ℕ) (xs : List ℕ) → is_member x (x ∷ xs) ≡ true
unfolding is_member
member_first x xs = rw (eq-eqb x x refl)

pub member_more : (x y : ℕ) (ys : List ℕ) → is_member x ys ≡ true → is_member x (y ∷ ys) ≡ true
unfolding is_member
member_more x y ys e = or_right (eqb x y) e

pub member_cases : (x y : ℕ) (ys : List ℕ) → is_member x (y ∷ ys) ≡ true → (x ≡ y) ⊎ (is_member x ys ≡ true)
unfolding is_member
member_cases x y ys e = on (eqb x y) (λ f. inl (eqb-true x y f)) (λ f. inr (rw f at e))

pub no_member : (x : ℕ) (xs : List ℕ) → (is_member x xs ≡ true → ⊥) → is_member x xs ≡ false
no_member x xs h = on (is_member x xs) (λ t. absurd (h t)) (λ f. f)

pub fewer_members : (x y : ℕ) (ys : List ℕ) → is_member x (y ∷ ys) ≡ false → is_member x ys ≡ false
fewer_members x y ys e = no_member x ys (λ t. false≢true (sym e ∙ member_more x y ys t))

member_other : (x y : ℕ) (ys : List ℕ) → (x ≡ y → ⊥) → is_member x (y ∷ ys) ≡ is_member x ys
unfolding is_member
member_other x y ys h = rw (ne_eqb x y h)

pub append_cases : (x : ℕ) (xs ys : List ℕ) → is_member x (xs ++ ys) ≡ true → (is_member x xs ≡ true) ⊎ (is_member x ys ≡ true)
append_cases x [] ys e = inr e
append_cases x (y ∷ xs) ys e =
    ⊎_elim (λ q. inl (rw q (member_first y xs)))
    (λ m. ⊎_elim (λ l. inl (member_more x y xs l)) (λ r. inr r) (append_cases x xs ys m)) (member_cases x y (xs ++ ys) e)

-- two lists of numbers that differ, and with no number in both
pub distinct_append : (xs ys : List ℕ) → Distinct xs → Distinct ys → ((x : ℕ) → is_member x xs ≡ true → is_member x ys ≡ false) → Distinct (xs ++ ys)
distinct_append [] ys d e apart = e
distinct_append (x ∷ xs) ys d e apart = (
  no_member x (xs ++ ys)
      (λ m. ⊎_elim (λ l. false≢true (sym d.0 ∙ l)) (λ r. false≢true (sym (apart x (member_first x xs)) ∙ r)) (append_cases x xs ys m)),
  distinct_append xs ys d.1 e (λ y m. apart y (member_more y x xs m)),
)

-- how many of the numbers below n are members
members_below : ℕ → List ℕ → ℕ
members_below zero xs = 0
members_below (suc n) xs = members_below n xs + cond (is_member n xs) 1 0

below_none : (n : ℕ) → members_below n [] ≡ 0
unfolding is_member members_below
below_none zero = refl
below_none (suc n) = rw (below_none n)

below_same : (n x : ℕ) (xs : List ℕ) → n ≤ x → members_below n (x ∷ xs) ≡ members_below n xs
unfolding members_below
below_same zero x xs h = refl
below_same (suc n) x xs h = rw (below_same n x xs (omega arith), member_other n x xs (λ e. omega arith))

below_add : (n x : ℕ) (xs : List ℕ) → is_member x xs ≡ false → x < n → members_below n (x ∷ xs) ≡ members_below n xs + 1
unfolding members_below
below_add zero x xs e h = absurd (omega arith)
below_add (suc n) x xs e h =
    on (eqb n x)
    (λ f. let same = eqb-true n x f in rw (same, member_first x xs, e, below_same x x xs (omega arith)) (omega arith))
    (λ f. let other = eqb-false n x f in rw (member_other n x xs other, below_add n x xs e (omega arith)) (omega arith))

-- 0 is no member, so below n there are at most n - 1
below_few : (n : ℕ) (xs : List ℕ) → is_member 0 xs ≡ false → members_below n xs ≤ n - 1
unfolding members_below
below_few zero xs e = omega arith
below_few (suc zero) xs e = rw e (omega arith)
below_few (suc (suc n)) xs e =
    let h = below_few (suc n) xs e in
    on (is_member (suc n) xs) (λ f. rw f (omega arith)) (λ f. rw f (omega arith))

below_all : (n : ℕ) (xs : List ℕ) → Distinct xs → ((x : ℕ) → is_member x xs ≡ true → (1 ≤ x) × (x < n)) → length xs ≡ members_below n xs
below_all n [] d h = sym (below_none n)
below_all n (x ∷ xs) d h =
    let rest = below_all n xs d.1 (λ y e. h y (member_more y x xs e)) in
    omega (arith, below_add n x xs d.0 (h x (member_first x xs)).1)

pub distinct_few : (n : ℕ) (xs : List ℕ) → Distinct xs → ((x : ℕ) → is_member x xs ≡ true → (1 ≤ x) × (x < n)) → length xs ≤ n - 1
distinct_few n xs d h =
    omega (arith, below_all n xs d h, below_few n xs (no_member 0 xs (λ e. omega (arith, (h 0 e).0))))
