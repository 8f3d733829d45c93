-- Lists of pages, one for each x of some type, with a key for each x. A page has a key, too, that of every x whose list has it.
--     sum_few     numbers of pages in lists with different keys add up to at most P-1
-- Rests on the pigeonhole for the joined list (lists: Joined, Member).
use mathlib.Core.Path.{◌≡◌, refl, sym, ◌∙◌}
use mathlib.Core.Bool.{true}
use mathlib.Core.List.{List, [], ◌∷◌, map}
use mathlib.Core.Option.{Option, none, some}
use Prim.Native.Nat.{ℕ, ◌+◌, ◌-◌, ◌≤◌}
use native.Mathlib.Omega.{arith}
use lib.ListN.{length, length-append}
use Rattle.lists.specs.Member.{is_member}
use Rattle.lists.specs.Distinct.{Distinct}
use Rattle.format.specs.Place.{linkable}
use Rattle.disjoint.specs.Carried.{total}
use Rattle.lists.proofs.Joined.{joined, joined_holds, joined_distinct}
use Rattle.chain.proofs.FuelEnough.{few}

module _ {X : Type 0} (list : X → List ℕ) (carried : X → Option ℕ) (counted : (x : X) (n : ℕ) → carried x ≡ some n → n ≡ length (list x)) where
  total_more : (x : X) (c : Option ℕ) → carried x ≡ c → (rest : List (Option ℕ)) → total (c ∷ rest) ≤ length (list x) + total rest
  total_more x none e rest = omega arith
  total_more x (some n) e rest = omega (arith, counted x n e)

  total_joined : (xs : List X) → total (map carried xs) ≤ length (joined list xs)
  total_joined [] = omega arith
  total_joined (x ∷ xs) =
      omega (arith, total_more x (carried x) refl (map carried xs), total_joined xs, length-append (list x) (joined list xs))

  pub sum_few : (key : X → ℕ) (page_key : ℕ → ℕ) (count : ℕ) → ((x : X) → Distinct (list x))
      → ((x : X) (page : ℕ) → is_member page (list x) ≡ true → (page_key page ≡ key x) × (linkable count page ≡ true))
      → (xs : List X) → Distinct (map key xs) → total (map carried xs) ≤ count - 1
  sum_few key page_key count different keyed xs d =
      let apart : (x y : X) (n : ℕ) → is_member n (list x) ≡ true → is_member n (list y) ≡ true → key x ≡ key y = λ x y n l r. sym (keyed x n l).0 ∙ (keyed y n r).0 in
      let inside = joined_holds list (λ (page : ℕ). linkable count page ≡ true) (λ x page m. (keyed x page m).1) xs in
      omega (arith, total_joined xs, few count (joined list xs) (joined_distinct list key different apart xs d) inside)
