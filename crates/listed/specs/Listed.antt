-- Rules 5.29 to 5.31: the row that an element of a list of places names, from the one page that it is said to lie on.
-- Rests on reading one row of a page (page/OneRow), on the pages of a file (chain/File) and on the rank (specs/Rank).
use Rattle.std.specs.Prelude.{Result, cond, not, ℕ, ◌%◌, length, get_or, leb}
use Rattle.lists.specs.Alias.{Bytes, Words, Places}
use Rattle.format.specs.Place.{linkable}
use Rattle.refusal.specs.Fault.{fault}
use Rattle.refusal.specs.declared.Refusal.{Refusal}
use Rattle.refusal.specs.Answer.{Answer, given, refuse_if, and_then, answer_as}
use Rattle.table.specs.declared.Table.{Table}
use Rattle.page.specs.declared.Row.{Row}
use Rattle.page.specs.OneRow.{read_row}
use Rattle.chain.specs.declared.Reply.{Reply}
use Rattle.chain.specs.Found.{Found, found, waiting, reply_of}
use Rattle.chain.specs.Held.{page_held}
use Rattle.chain.specs.File.{page_part}
use Rattle.listed.specs.Rank.{page_of, rank}

-- reading the row of element i from its page
abbrev pub read_element : (size : ℕ) (table : Table) (image : Bytes) (list : Places) (i : ℕ) → Answer Row
read_element size table image list i =
    read_row (page_of size list i) table (page_part size image (page_of size list i)) (get_or list i 0 % size) (rank size list i)

-- Rules 5.29 to 5.31, in this order: the row that element i names, in a file of so many pages of size bytes.
unfoldable pub listed_row : (size page_count : ℕ) (table : Table) (image : Bytes) (map : Words) (list : Places) (i : ℕ) → Answer (Found Row)
listed_row size page_count table image map list i =
    refuse_if (leb (length list) i) (fault 18 0)  -- 5.29, the list
    (refuse_if (not (linkable page_count (page_of size list i))) (fault 18 0)  -- 5.29, the page
    (cond (not (page_held size map (page_of size list i))) (given (waiting (page_of size list i) 0 0))  -- 5.29, its blocks
    (and_then (read_element size table image list i) (λ row. given (found row)))))  -- 5.30, 5.31

-- what a result of the code stands for
abbrev pub listed_of : Result (Reply Row) Refusal → Answer (Found Row)
listed_of = answer_as (reply_of (λ (row : Row). row))
