-- Rule 5.19: row k of a page, counted from 0 among its present rows, in the order of the index.
use Rattle.std.specs.Prelude.{ℕ, ◌+◌, ◌≤◌, Result, Ok, Err}
use Rattle.lists.specs.Alias.{Bytes}
use Rattle.lists.specs.Nth.{Nth, element, past, nth}
use Rattle.format.specs.Size.{heap_start}
use Rattle.page.specs.declared.Row.{Row}
use Rattle.page.specs.Found.{no_row}
use Rattle.page.specs.Read.{page_rows}

-- row k of a page of this number, or the number of the page's rows
abbrev pub page_row : (number : ℕ) (page : Bytes) (k : ℕ) → Nth Row
page_row number page k = nth no_row (page_rows number page) k 0

-- what a result of the code stands for
abbrev pub row_at_of : Result Row ℕ → Nth Row
row_at_of (Ok row) = element row
row_at_of (Err rows) = past rows

-- an offset has two bytes, so a row starts at most so far into its page
abbrev pub Near : Result Row ℕ → Type 0
Near (Ok row) = row.start ≤ heap_start + 0xffff
Near (Err rows) = Unit {0}
