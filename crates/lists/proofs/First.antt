-- Laws of `first_from`, as a loop goes that may pass several numbers in one turn.
--     first_here, first_end    number i passes the test; nothing is left
--     first_skip               k numbers that do not pass it are passed over
--     first_agree              two tests that agree on the run
use mathlib.Core.Path.{◌≡◌, refl, sym, ◌∙◌}
use mathlib.Core.Bool.{Bool, true, false}
use mathlib.Core.Option.{none, some}
use Prim.Native.Nat.{ℕ, zero, suc, ◌+◌, ◌-◌, ◌<◌, ◌≤◌}
use native.Mathlib.Nat.{add-zero}
use native.Mathlib.Omega.{arith}
use lib.Dec.{ltb}
use borrow.Author.Tests.{ltb-true, ltb-false}
use Rattle.lists.specs.First.{first_from}
use Rattle.lists.proofs.Choice.{on, left_step}

module _ (test : ℕ → Bool) where
  pub first_here : {n i : ℕ} → i < n → test i ≡ true → first_from test (n - i) i ≡ some i
  unfolding first_from
  first_here h e = rw (left_step h, e)

  pub first_end : (n i : ℕ) → n ≤ i → first_from test (n - i) i ≡ none
  unfolding first_from
  first_end n i h = let z : n - i ≡ 0 = omega arith in rw z

  first_next : {n i : ℕ} → i < n → test i ≡ false → first_from test (n - i) i ≡ first_from test (n - (i + 1)) (i + 1)
  unfolding first_from
  first_next h e = rw (left_step h, e)

  pub first_skip : (n i k : ℕ) → ((j : ℕ) → i ≤ j → j < i + k → test j ≡ false) → first_from test (n - i) i ≡ first_from test (n - (i + k)) (i + k)
  first_skip n i zero h = rw (add-zero i)
  first_skip n i (suc k) h =
      on (ltb i n)
      (λ e. first_next (ltb-true i n e) (h i (omega arith) (omega arith))
      ∙ first_skip n (i + 1) k (λ j l g. h j (omega arith) (omega arith)) ∙ rw more)
      (λ e. let past : n ≤ i = ltb-false i n e in first_end n i past ∙ sym (first_end n (i + suc k) (omega arith)))
    where
      more : i + 1 + k ≡ i + suc k
      more = omega arith

pub first_agree : (p q : ℕ → Bool) (k i : ℕ) → ((j : ℕ) → i ≤ j → j < i + k → p j ≡ q j) → first_from p k i ≡ first_from q k i
unfolding first_from
first_agree p q zero i e = refl
first_agree p q (suc k) i e = rw (e i (omega arith) (omega arith), first_agree p q k (i + 1) (λ j h l. e j (omega arith) (omega arith)))
