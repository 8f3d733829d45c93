-- Rules 4.15, 4.17, 5.4, 5.10, 5.33: reading a page. The page is its own part of the image, so its length is len_page.
-- It rests on the page's header and row index (specs/Header, specs/Index) and on the check of a row (row/Check).
use Rattle.std.specs.Prelude.{Bool, cond, not, ◌&&◌, List, [], ◌∷◌, map, ℕ, ◌+◌, ◌-◌, length, take, drop, leb, eqb}
use Rattle.lists.specs.Alias.{Bytes, Places}
use Rattle.format.specs.Size.{heap_start}
use Rattle.refusal.specs.Fault.{fault, fault_at}
use Rattle.refusal.specs.Answer.{Answer, given, refused, refuse_if, and_then}
use Rattle.table.specs.declared.Table.{Table}
use Rattle.row.specs.Check.{check_row}
use Rattle.page.specs.declared.Row.{Row}
use Rattle.page.specs.Header.{number_agrees, type_agrees, rowless, entries, num_rows}
use Rattle.page.specs.Index.{index_size, row_start, present_from}
use Rattle.page.specs.Found.{Rows, row_of}

-- Rule 5.4: header and index fit the page.
unfoldable pub index_fits : (page : Bytes) → Bool
index_fits page = leb (heap_start + index_size (entries page)) (length page)

-- Rule 5.33: as many of the entries are present as the page counts rows.
unfoldable pub count_agrees : (page : Bytes) → Bool
count_agrees page = eqb (length (present_from page (entries page) 0)) (num_rows page)

-- Rules 5.4, 5.33: the row index is good; 13 is given where it is not.
unfoldable pub index_good : (page : Bytes) → Bool
index_good page = index_fits page && count_agrees page

-- Rule 5.8: the part of the page that rows may use.
unfoldable pub before_index : (page : Bytes) → Bytes
before_index page = take (length page - index_size (entries page)) page

-- the present entries of a page; none with flag `40` (rule 4.13) or where the index is not good
unfoldable pub row_entries : (page : Bytes) → List ℕ
row_entries page = cond (rowless page) [] (cond (index_good page) (present_from page (entries page) 0) [])

-- Rule 5.34: the rows of a page of this number
abbrev pub page_rows : (number : ℕ) (page : Bytes) → Rows
page_rows number page = map (row_of number page) (row_entries page)

-- Rule 4.15: a fault of a row carries its page and its entry.
abbrev pub on_row : {A : Type 0} (row : Row) (answer : Answer A) → Answer A
on_row row (given x) = given x
on_row row (refused f) = refused (fault_at f.number row.page row.entry)

-- Rules 5.8, 5.9: the check of a row that was found; before is the part of its page before the index.
abbrev pub check_found : (table : Table) (before : Bytes) (row : Row) → Answer (Unit {0})
check_found table before row = on_row row (check_row table (drop row.start before))

-- such a row, unless it is refused
abbrev pub judged : (table : Table) (before : Bytes) (row : Row) → Answer Row
judged table before row = and_then (check_found table before row) (λ _. given row)

-- Rule 5.10: of rows one after the other.
unfoldable pub check_rows : (table : Table) (before : Bytes) (rows : Rows) → Answer (Unit {0})
check_rows table before [] = given tt
check_rows table before (row ∷ rows) = and_then (check_found table before row) (λ _. check_rows table before rows)

-- Rule 4.15: 12, 25, flag `40` and 13, in this order. With flag `40` none answers, with a good index rest.
abbrev pub page_tests : {A : Type 0} (number : ℕ) (table : Table) (page : Bytes) (none rest : Answer A) → Answer A
page_tests number table page none rest =
    refuse_if (not (number_agrees number page)) (fault 12 number)  -- 4.12
    (refuse_if (not (type_agrees table page)) (fault 25 number)  -- 4.19
    (cond (rowless page) none  -- 4.13
    (refuse_if (not (index_good page)) (fault 13 number)  -- 5.4, 5.33
    rest)))

-- Rule 4.15: then 14 and 15 row by row.
unfoldable pub read_page : (number : ℕ) (table : Table) (page : Bytes) → Answer Rows
read_page number table page =
    page_tests number table page (given [])
    (and_then (check_rows table (before_index page) (page_rows number page)) (λ _. given (page_rows number page)))

-- the number of rows found
abbrev pub row_count : Answer Rows → Answer ℕ
row_count (given rows) = given (length rows)
row_count (refused f) = refused f

-- the places of these entries' rows on a page that starts at a byte of the image
abbrev pub entry_places : (start : ℕ) (page : Bytes) (entries : List ℕ) → Places
entry_places start page entries = map (λ (i : ℕ). start + row_start page i) entries

-- Rule 4.17: the places that are written of a page; none where one might not fit 32 bits.
unfoldable pub row_places : (start : ℕ) (page : Bytes) → Places
row_places start page = cond (leb (start + heap_start + 0xffff) 0xffff_ffff) (entry_places start page (row_entries page)) []
