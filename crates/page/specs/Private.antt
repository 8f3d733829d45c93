-- Definitions that only the contracts of private functions and the proofs cite.
use Rattle.std.specs.Prelude.{cond, not, map, ℕ, ◌%◌, ◌^◌, min, length, eqb, Option, Some, None}
use Rattle.std.specs.Int.Count.{ones}
use Rattle.lists.specs.Alias.{Bytes}
use Rattle.lists.specs.Nth.{Nth, element, past}
use Rattle.number.specs.Number.{le16}
use Rattle.refusal.specs.Fault.{fault}
use Rattle.refusal.specs.Answer.{Answer, given, refused, refuse_if, and_then}
use Rattle.table.specs.declared.Table.{Table}
use Rattle.page.specs.Header.{rowless, entries}
use Rattle.page.specs.Index.{flags_at, present_from}
use Rattle.page.specs.declared.Row.{Row}
use Rattle.page.specs.Found.{Rows, row_of}
use Rattle.page.specs.Read.{index_good, judged, check_rows, page_tests}

-- a page and the number of its row index's entries
pub record PageIndex : Type 0 where
  pub page : Bytes
  pub entries : ℕ

abbrev pub index_of : (page : Bytes) → PageIndex
index_of page = record { page = page; entries = entries page }

-- Rules 4.14, 5.4, 5.33: the row index of a page, if it is good
abbrev pub good_index : (page : Bytes) → Option PageIndex
good_index page = cond (index_good page) (Some (index_of page)) None

-- Rule 4.13: the same, and none with flag `40`
abbrev pub rows_index : (page : Bytes) → Option PageIndex
rows_index page = cond (rowless page) None (good_index page)

-- Rule 5.33: the ones among the flags of the group whose first entry is i, where so many entries are left
unfoldable pub group_ones : (page : Bytes) (left i : ℕ) → ℕ
group_ones page left i = ones (le16 page (flags_at page i) % 2 ^ min left 16)

-- Rule 4.15: the row index of a page, where the page's tests come to it
abbrev pub tested_index : (number : ℕ) (table : Table) (page : Bytes) → Answer (Option PageIndex)
tested_index number table page = page_tests number table page (given None) (given (Some (index_of page)))

-- the rows of the present ones among so many entries from i on
abbrev pub rows_from : (number : ℕ) (page : Bytes) (left i : ℕ) → Rows
rows_from number page left i = map (row_of number page) (present_from page left i)

-- the number of these rows, unless one of them is refused
unfoldable pub checked_count : (table : Table) (before : Bytes) (rows : Rows) → Answer ℕ
checked_count table before rows = and_then (check_rows table before rows) (λ _. given (length rows))

-- the row that was found for a rank, which is to start there
abbrev pub judged_at : (table : Table) (before : Bytes) (start : ℕ) (found : Nth Row) → Answer Row
judged_at table before start (element row) = refuse_if (not (eqb row.start start)) (fault 18 0) (judged table before row)
judged_at table before start (past rows) = refused (fault 18 0)
