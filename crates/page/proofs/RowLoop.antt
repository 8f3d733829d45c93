-- The loop of `find_row`: the rows of the entries before i come before row k, and the whole answer is that of the entries left. Rule 5.19.
--     begin          before the first entry
--     absent, next   after an entry that is absent, or whose row is not row k
--     here           an entry whose row is row k
--     end            after the last entry
use mathlib.Core.Path.{◌≡◌, sym, ◌∙◌}
use mathlib.Core.Bool.{true, false}
use Prim.Native.Nat.{ℕ, suc, ◌+◌, ◌-◌, ◌<◌, ◌≤◌}
use native.Mathlib.Nat.{sub-zero}
use native.Mathlib.Omega.{arith}
use Rattle.lists.specs.Alias.{Bytes}
use Rattle.lists.specs.Nth.{element, past, nth}
use Rattle.lists.proofs.Nth.{nth_none, nth_first, nth_skip}
use Rattle.page.specs.declared.Row.{Row}
use Rattle.page.specs.Index.{present}
use Rattle.page.specs.Found.{row_of, no_row}
use Rattle.page.specs.Private.{rows_from}
use Rattle.page.proofs.EntriesInside.{entry_absent, entry_present, entry_none}

pub record Finding (number : ℕ) (page : Bytes) (n k i found : ℕ) : Type 0 where
  pub entry : i ≤ n
  pub few : found ≤ i
  pub before : found ≤ k
  pub rest : nth no_row (rows_from number page n 0) k 0 ≡ nth no_row (rows_from number page (n - i) i) (k - found) found

pub begin : (number : ℕ) (page : Bytes) (n k : ℕ) → Finding number page n k 0 0
begin number page n k = record { entry = omega arith; few = omega arith; before = omega arith; rest = rw (sub-zero n, sub-zero k) }

module _ {number : ℕ} {page : Bytes} {n k i found : ℕ} (f : Finding number page n k i found) where
  pub end : n ≤ i → past found ≡ nth no_row (rows_from number page n 0) k 0
  end h = sym (f.rest ∙ rw (entry_none page n i h) (nth_none no_row (k - found) found))

  pub absent : i < n → present page i ≡ false → Finding number page n k (i + 1) found
  absent h e = record { entry = omega arith; few = omega arith; before = f.before; rest = rw (entry_absent page h e) at f.rest }

  pub next : i < n → present page i ≡ true → (found ≡ k → ⊥) → Finding number page n k (i + 1) (found + 1)
  next h e other =
      let left : k - found ≡ suc (k - (found + 1)) = omega (arith, f.before, other) in
      record {
        entry = omega arith;
        few = omega arith;
        before = omega (arith, f.before, other);
        rest = f.rest ∙ rw (entry_present page h e, left) (nth_skip no_row (row_of number page i) (rows_from number page (n - (i + 1)) (i + 1)) (k - (found + 1)) found);
      }

  pub here : {row : Row} → i < n → present page i ≡ true → row ≡ row_of number page i → found ≡ k → element row ≡ nth no_row (rows_from number page n 0) k 0
  here {row} h e s q =
      let left : k - found ≡ 0 = omega (arith, q) in
      sym (f.rest ∙ rw (entry_present page h e, left, s) (nth_first no_row (row_of number page i) (rows_from number page (n - (i + 1)) (i + 1)) found))
