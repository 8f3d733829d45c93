-- Row k of a table: rules 5.8, 5.19 and 5.21 to 5.24.
use Rattle.std.specs.Prelude.{cond, not, ℕ, length, get_or, drop, ltb}
use Rattle.lists.specs.Alias.{Bytes}
use Rattle.refusal.specs.Fault.{fault}
use Rattle.refusal.specs.Answer.{Answer, given, refused, refuse_if}
use Rattle.page.specs.declared.Row.{Row}
use Rattle.page.specs.Found.{Rows, no_row}
use Rattle.page.specs.Read.{before_index}
use Rattle.chain.specs.Walk.{Walk, full, waiting}
use Rattle.chain.specs.File.{page_part}
use Rattle.chain.specs.Found as row
use Rattle.chain.specs.Found.{Found}

-- Rules 5.23 and 5.24: the answer for row k of the rows found
abbrev pub settle_row : {A : Type 0} (answer : Row → Answer (Found A)) (k : ℕ) (walk : Walk Rows) → Answer (Found A)
settle_row answer k (given (full rows pages)) = refuse_if (not (ltb k (length rows))) (fault 18 0) (answer (get_or rows k no_row))
settle_row answer k (given (waiting page rows pages)) =
    cond (not (ltb k (length rows))) (given (row.waiting page (length rows) pages)) (answer (get_or rows k no_row))
settle_row answer k (refused f) = refused f

-- Rule 5.8: the row's own part of its page, from its start to the row index; a page has size bytes
unfoldable pub row_part : (size : ℕ) (image : Bytes) (row : Row) → Bytes
row_part size image row = drop row.start (before_index (page_part size image row.page))
