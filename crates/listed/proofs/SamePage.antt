-- A place lies on the page that starts at a byte exactly when it stands at or behind that byte and less than size bytes behind it. Rule 5.30.
--     page_test                  the test of `lies_on`
--     first_whole, first_page    where the page of a place starts
use mathlib.Core.Path.{◌≡◌, sym, ap, ◌∙◌}
use mathlib.Core.Bool.{false}
use Prim.Native.Nat.{ℕ, ◌+◌, ◌-◌, ◌*◌, ◌/◌, ◌%◌, ◌<◌, ◌≤◌}
use native.Mathlib.Nat.{div-add-mod', div-eq_of_lt-le, mod-lt, mul-mod_left, suc-mul}
use native.Mathlib.Omega.{arith}
use lib.Dec.{eqb, ltb}
use borrow.Author.Tests.{ltb-true, ltb-false, eq-eqb, ne_eqb}
use Rattle.lists.proofs.Choice.{on}

module _ (place first size : ℕ) (some : 0 < size) (whole : first % size ≡ 0) where
  starts : first / size * size ≡ first
  starts = let k = div-add-mod' first size in omega arith

  -- a place of the same page stands from its start to its end
  same_bounds : place / size ≡ first / size → (first ≤ place) × (place < first + size)
  same_bounds e =
      let k = div-add-mod' place size in
      let l = mod-lt place some in
      let m : place / size * size ≡ first / size * size = ap (λ (q : ℕ). q * size) e in
      let n = starts in
      (omega arith, omega arith)

  bounds_same : first ≤ place → place < first + size → place / size ≡ first / size
  bounds_same h l = div-eq_of_lt-le size (omega (arith, starts)) (omega (arith, starts, suc-mul (first / size) size))

  pub page_test : first ≤ place → ltb (place - first) size ≡ eqb (place / size) (first / size)
  page_test h =
      on (ltb (place - first) size)
      (λ t. let l = ltb-true (place - first) size t in t ∙ sym (eq-eqb (place / size) (first / size) (bounds_same h (omega arith))))
      (λ t. let l = ltb-false (place - first) size t in
      t ∙ sym (ne_eqb (place / size) (first / size) (λ e. let b = same_bounds e in omega arith)))

module _ (place size : ℕ) (some : 0 < size) where
  first_of : place - place % size ≡ place / size * size
  first_of = let k = div-add-mod' place size in omega arith

  pub first_whole : (place - place % size) % size ≡ 0
  first_whole = rw first_of (mul-mod_left (place / size) size)

  pub first_page : (place - place % size) / size ≡ place / size
  first_page = rw first_of (div-eq_of_lt-le size (omega arith) (omega (arith, suc-mul (place / size) size)))
