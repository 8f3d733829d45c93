-- Rules 5.30, 5.31: reading one row of a page, named by where it starts and by its rank, its number among the page's present rows.
-- It rests on the rows of a page and their check (specs/Read).
use Rattle.std.specs.Prelude.{Bool, not, ◌&&◌, ℕ, length, get_or, eqb, ltb}
use Rattle.lists.specs.Alias.{Bytes}
use Rattle.refusal.specs.Fault.{fault}
use Rattle.refusal.specs.Answer.{Answer, refused, refuse_if}
use Rattle.table.specs.declared.Table.{Table}
use Rattle.page.specs.declared.Row.{Row}
use Rattle.page.specs.Index.{row_start}
use Rattle.page.specs.Found.{row_of}
use Rattle.page.specs.Read.{before_index, row_entries, judged, page_tests}

-- the row of this rank
abbrev pub row_ranked : (number : ℕ) (page : Bytes) (rank : ℕ) → Row
row_ranked number page rank = row_of number page (get_or (row_entries page) rank 0)

-- is true exactly when the page has a present row of this rank, and it starts there
unfoldable pub is_row : (page : Bytes) (start rank : ℕ) → Bool
is_row page start rank = ltb rank (length (row_entries page)) && eqb (row_start page (get_or (row_entries page) rank 0)) start

-- Rule 5.31: the tests of the page, the row's start, then 14 and 15 of this row alone.
unfoldable pub read_row : (number : ℕ) (table : Table) (page : Bytes) (start rank : ℕ) → Answer Row
read_row number table page start rank =
    page_tests number table page (refused (fault 18 0))
    (refuse_if (not (is_row page start rank)) (fault 18 0)
    (judged table (before_index page) (row_ranked number page rank)))
