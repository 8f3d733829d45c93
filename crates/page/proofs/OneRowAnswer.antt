-- Rule 5.31: what it means that one row of a page is read without a fault.
--     row_read         the header agrees, the index is good, the row is where it is said to be and is good
--     read_row_good    the other way round
--     start_good       a page with a row of some rank has rows, and its index is good
--     row_here         the row of the rank starts there
--     rank_most        ranks from the page's length on are all alike
use mathlib.Core.Path.{◌≡◌, sym}
use mathlib.Core.Bool.{true, false, false≢true}
use Prim.Native.Nat.{ℕ, ◌<◌, ◌≤◌, min}
use native.Mathlib.Nat.{min-eq_left, min-eq_right}
use native.Mathlib.Omega.{arith}
use lib.ListN.{length, drop, get_or}
use lib.Dec.{eqb, leb, ltb, leb-suc-zero}
use borrow.Author.Tests.{le-ltb, leb-true, leb-false, ltb-true, eqb-true}
use Rattle.lists.specs.Alias.{Bytes}
use Rattle.lists.proofs.Choice.{on, never, both_true}
use Rattle.refusal.specs.Answer.{given}
use Rattle.table.specs.declared.Table.{Table}
use Rattle.row.specs.Check.{check_row}
use Rattle.page.specs.declared.Row.{Row}
use Rattle.page.specs.Header.{number_agrees, type_agrees, header_agrees, rowless}
use Rattle.page.specs.Index.{row_start}
use Rattle.page.specs.Read.{index_good, before_index, row_entries, check_found, judged}
use Rattle.page.specs.OneRow.{row_ranked, is_row, read_row}
use Rattle.page.proofs.RowEntries.{rows_short}
use Rattle.page.proofs.PageAnswer.{good_check, found_good}
use Rattle.page.proofs.PageTests.{by_tests}

pub record ReadRow (number : ℕ) (table : Table) (page : Bytes) (start rank : ℕ) (row : Row) : Type 0 where
  pub header : header_agrees number table page ≡ true
  pub rows : rowless page ≡ false
  pub index : index_good page ≡ true
  pub here : is_row page start rank ≡ true
  pub found : row ≡ row_ranked number page rank
  pub good : check_row table (drop start (before_index page)) ≡ given tt

pub row_here : (page : Bytes) (start rank : ℕ) → is_row page start rank ≡ true
    → (rank < length (row_entries page)) × (row_start page (get_or (row_entries page) rank 0) ≡ start)
unfolding is_row
row_here page start rank e =
    let at = row_start page (get_or (row_entries page) rank 0) in
    let both = both_true (ltb rank (length (row_entries page))) (eqb at start) e in
    (ltb-true rank (length (row_entries page)) both.0, eqb-true at start both.1)

module _ (number : ℕ) (table : Table) (page : Bytes) (start rank : ℕ) (row : Row) where
  judged_row : is_row page start rank ≡ true → judged table (before_index page) (row_ranked number page rank) ≡ given row
      → (check_row table (drop start (before_index page)) ≡ given tt) × (row ≡ row_ranked number page rank)
  judged_row w e =
      let own = row_ranked number page rank in
      let both = good_check own row (check_found table (before_index page) own) (sym e) in
      let at : own.start ≡ start = (row_here page start rank w).1 in
      (rw at at (found_good own (check_row table (drop own.start (before_index page))) both.0), both.1)

  pub row_read : read_row number table page start rank ≡ given row → ReadRow number table page start rank row
  unfolding read_row
  row_read e =
      by_tests number table page (λ h. never (cc (rw h at e))) (λ h t. never (cc (rw (h, t) at e))) (λ h t r. never (cc (rw (h, t, r) at e)))
      (λ h t r f. never (cc (rw (h, t, r, f) at e)))
      (λ h t r f. on (is_row page start rank)
      (λ w. let own = judged_row w (rw (h, t, r, f, w) at e) in
      record { header = rw (h, t); rows = r; index = f; here = w; found = own.1; good = own.0 })
      (λ w. never (cc (rw (h, t, r, f, w) at e))))

  pub read_row_good : ReadRow number table page start rank row → read_row number table page start rank ≡ given row
  unfolding read_row
  read_row_good g =
      let both = both_true (number_agrees number page) (type_agrees table page) g.header in
      let at = (row_here page start rank g.here).1 in
      rw (both.0, both.1, g.rows, g.index, g.here, g.found, at, g.good)

module _ (page : Bytes) (start rank : ℕ) where
  pub start_good : is_row page start rank ≡ true → (rowless page ≡ false) × (index_good page ≡ true)
  unfolding is_row row_entries
  start_good e =
      on (rowless page) (λ r. absurd (false≢true (rw (r, leb-suc-zero rank) at e)))
      (λ r. on (index_good page) (λ f. (r, f)) (λ f. absurd (false≢true (rw (r, f, leb-suc-zero rank) at e))))

  -- a page has fewer rows than bytes, so a rank from there on is no row's, whichever it is
  no-row : length page ≤ rank → is_row page start rank ≡ false
  unfolding is_row
  no-row h = rw (le-ltb rank (length (row_entries page)) (omega (arith, rows_short page)))

pub rank_most : (number : ℕ) (table : Table) (page : Bytes) (start rank most : ℕ) → length page ≤ most
    → read_row number table page start (min most rank) ≡ read_row number table page start rank
unfolding read_row
rank_most number table page start rank most h =
    on (leb most rank)
    (λ e. let l = leb-true most rank e in rw (min-eq_left l, no-row page start most h, no-row page start rank (omega arith)))
    (λ e. let l = leb-false most rank e in rw (min-eq_right {n = rank} {m = most} (omega arith)))
