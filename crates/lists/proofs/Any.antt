-- Laws of `any_from`: one number at a time, as a loop goes, and all at once.
--     any_here, any_next, any_end     what is left from i, where the test holds at i, where it does not, and where nothing is left
--     any_at, any_none, any_not       one number passes the test; none does
--     any_last                        a run with one number more at its end
--     any_agree                       two tests that agree on the run
--     any_range, all_range            the library's `any` and `all` over a range
--     Looking, look-..                the invariant of a loop that looks for such a number
use mathlib.Core.Path.{◌≡◌, refl, sym, ◌∙◌}
use mathlib.Core.Bool.{Bool, true, false, not, ◌||◌, or-false, or_assoc, false≢true}
use mathlib.Core.Logic.{⊎_elim}
use Prim.Native.Nat.{ℕ, zero, suc, ◌+◌, ◌-◌, ◌<◌, ◌≤◌}
use native.Mathlib.Nat.{eq-or-lt_of_le, sub-zero, add-zero}
use native.Mathlib.Omega.{arith}
use Rattle.std.specs.List.{list_any, list_all, range_with_len}
use Rattle.lists.specs.Any.{any_from}
use Rattle.lists.proofs.Choice.{on, or_left, or_right, left_step}

module _ (test : ℕ → Bool) where
  pub any_here : {n i : ℕ} → i < n → test i ≡ true → any_from test (n - i) i ≡ true
  unfolding any_from
  any_here h e = rw (left_step h, e)

  pub any_next : {n i : ℕ} → i < n → test i ≡ false → any_from test (n - i) i ≡ any_from test (n - (i + 1)) (i + 1)
  unfolding any_from
  any_next h e = rw (left_step h, e)

  pub any_end : (n i : ℕ) → n ≤ i → any_from test (n - i) i ≡ false
  unfolding any_from
  any_end n i h = let z : n - i ≡ 0 = omega arith in rw z

  pub any_at : (k i j : ℕ) → i ≤ j → j < i + k → test j ≡ true → any_from test k i ≡ true
  unfolding any_from
  any_at zero i j h l e = absurd (omega arith)
  any_at (suc k) i j h l e =
      ⊎_elim (λ q. or_left (any_from test k (i + 1)) (rw (← q) at e))
      (λ q. or_right (test i) (any_at k (i + 1) j (omega arith) (omega arith) e)) (eq-or-lt_of_le h)

  pub any_none : (k i : ℕ) → ((j : ℕ) → i ≤ j → j < i + k → test j ≡ false) → any_from test k i ≡ false
  unfolding any_from
  any_none zero i h = refl
  any_none (suc k) i h = rw (h i (omega arith) (omega arith)) (any_none k (i + 1) (λ j l g. h j (omega arith) (omega arith)))

  pub any_not : (k i j : ℕ) → any_from test k i ≡ false → i ≤ j → j < i + k → test j ≡ false
  any_not k i j e h l = on (test j) (λ f. absurd (false≢true (sym e ∙ any_at k i j h l f))) (λ f. f)

  pub any_last : (k i : ℕ) → any_from test (k + 1) i ≡ (any_from test k i || test (i + k))
  unfolding any_from
  any_last zero i = rw add-zero (or-false (test i))
  any_last (suc k) i =
      let more : suc k + 1 ≡ suc (k + 1) = omega arith in
      let end : i + 1 + k ≡ i + suc k = omega arith in
      rw (more, any_last k (i + 1), end, or_assoc (test i) (any_from test k (i + 1)) (test (i + suc k)))

pub any_agree : (p q : ℕ → Bool) (k i : ℕ) → ((j : ℕ) → i ≤ j → j < i + k → p j ≡ q j) → any_from p k i ≡ any_from q k i
unfolding any_from
any_agree p q zero i e = refl
any_agree p q (suc k) i e = rw (e i (omega arith) (omega arith), any_agree p q k (i + 1) (λ j h l. e j (omega arith) (omega arith)))

pub any_range : (test : ℕ → Bool) (k i : ℕ) → list_any test (range_with_len i k) ≡ any_from test k i
unfolding any_from
any_range test zero i = refl
any_range test (suc k) i = rw (any_range test k (i + 1))

pub all_range : (test : ℕ → Bool) (k i : ℕ) → list_all test (range_with_len i k) ≡ not (any_from (λ (j : ℕ). not (test j)) k i)
unfolding any_from
all_range test zero i = refl
all_range test (suc k) i = on (test i) (λ e. rw (e, all_range test k (i + 1))) (λ e. rw e)

-- the invariant of a loop that looks for a number below n that passes the test: i numbers were looked at, and all is what is left
pub record Looking (test : ℕ → Bool) (all : Bool) (n i : ℕ) : Type 0 where
  pub inside : i ≤ n
  pub rest : all ≡ any_from test (n - i) i

pub look_begin : {test : ℕ → Bool} {all : Bool} {n : ℕ} → all ≡ any_from test n 0 → Looking test all n 0
look_begin {n = n} e = record { inside = omega arith; rest = rw (sub-zero n) e }

module _ {test : ℕ → Bool} {all : Bool} {n i : ℕ} (l : Looking test all n i) where
  pub look_here : i < n → test i ≡ true → true ≡ all
  look_here h e = sym (l.rest ∙ any_here test h e)

  pub look_next : i < n → test i ≡ false → Looking test all n (i + 1)
  look_next h e = record { inside = omega arith; rest = l.rest ∙ any_next test h e }

  pub look_end : n ≤ i → false ≡ all
  look_end h = sym (l.rest ∙ any_end test n i h)
