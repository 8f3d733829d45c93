-- Rule 5.34: a row that is found is its page's number, its entry in the page's row index and its start in the page.
-- Two entries may name one row, so a place does not tell the entry.
use Rattle.std.specs.Prelude.{List, map, ℕ, ◌+◌, ◌*◌}
use Rattle.lists.specs.Alias.{Bytes, Places}
use Rattle.page.specs.declared.Row.{Row}
use Rattle.page.specs.Index.{row_start}

abbrev pub Rows : Type 0
Rows = List Row

-- the row of entry i on a page of this number
abbrev pub row_of : (number : ℕ) (page : Bytes) (i : ℕ) → Row
row_of number page i = record { page = number; entry = i; start = row_start page i }

-- Rule 4.10: a row's place in the image, where pages have size bytes
abbrev pub place_of : (size : ℕ) (row : Row) → ℕ
place_of size row = row.page * size + row.start

abbrev pub places : (size : ℕ) (rows : Rows) → Places
places size rows = map (place_of size) rows

-- no row of any table: page 0 is the directory's
abbrev pub no_row : Row
no_row = record { page = 0; entry = 0; start = 0 }
