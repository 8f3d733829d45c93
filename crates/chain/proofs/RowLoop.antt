-- Row k along a chain: the invariant of the loop of `row_along`. Rules 5.19 and 5.21.
-- Rests on the laws of `nth` (crate `lists`).
use mathlib.Core.Path.{◌≡◌, sym, ◌∙◌}
use mathlib.Core.List.{[]}
use Prim.Native.Nat.{ℕ, ◌+◌, ◌-◌, ◌<◌, ◌≤◌}
use native.Mathlib.Omega.{arith}
use Rattle.lists.specs.Alias.{Bytes}
use Rattle.lists.specs.Nth.{Nth, element, past, nth}
use Rattle.page.specs.declared.Row.{Row}
use Rattle.page.specs.Found.{no_row}
use Rattle.page.specs.Row.{page_row}
use Rattle.chain.specs.File.{page_part, page_next, rows_on, rows_first}
use Rattle.lists.proofs.Nth.{nth_none, nth_front, past_front}
use Rattle.chain.proofs.FillLoop.{along_more, along_end}

-- row k of a page, by the part that is read
pub row_on : (size : ℕ) (image : Bytes) (number k : ℕ) {part : Bytes} {found : Nth Row} → part ≡ page_part size image number → found ≡ page_row number part k
    → found ≡ nth no_row (rows_on size image number) k 0
unfolding rows_on
row_on size image number k p e = e ∙ rw p

-- i pages are done, this page is next, and the rows of those before come before row k
pub record Locating (size : ℕ) (image : Bytes) (first pages k page i found : ℕ) : Type 0 where
  pub before : found ≤ k
  pub rest : nth no_row (rows_first size image pages first) k 0 ≡ nth no_row (rows_first size image (pages - i) page) (k - found) found

module _ {size : ℕ} {image : Bytes} {first pages k page i found : ℕ} (l : Locating size image first pages k page i found) where
  pub end : pages ≤ i → past found ≡ nth no_row (rows_first size image pages first) k 0
  end h =
      sym (l.rest ∙ rw (along_end (page_next size image) (rows_on size image) pages i page h) (nth_none no_row (k - found) found))

  pub here : {at : Row} → i < pages → element at ≡ nth no_row (rows_on size image page) (k - found) 0
      → element at ≡ nth no_row (rows_first size image pages first) k 0
  here {at} h e =
      nth_front no_row (rows_on size image page) (rows_first size image (pages - (i + 1)) (page_next size image page)) (k - found) found e
      ∙ sym (l.rest ∙ rw (along_more (page_next size image) (rows_on size image) pages i page h))

  pub still_before : {n : ℕ} → past n ≡ nth no_row (rows_on size image page) (k - found) 0 → found + n ≤ k
  still_before e = omega (arith, (past_front no_row (rows_on size image page) [] (k - found) 0 e).0, l.before)

  pub next : {n page' : ℕ} → i < pages → past n ≡ nth no_row (rows_on size image page) (k - found) 0 → page' ≡ page_next size image page
      → Locating size image first pages k page' (i + 1) (found + n)
  next {n} {page'} h e p =
      let passed = past_front no_row (rows_on size image page) (rows_first size image (pages - (i + 1)) (page_next size image page)) (k - found) found e in
      let less : k - found - n ≡ k - (found + n) = omega arith in
      record {
        before = still_before e;
        rest = l.rest ∙ rw (along_more (page_next size image) (rows_on size image) pages i page h, p, ← less) passed.1;
      }
