-- The page layer of a file (specs/Walk): its pages are parts of the image, and the map says which are held.
-- Rules 3.10, 4.5, 4.6, 4.17 and 5.34. Rests on reading a page (crate `page`).
use Rattle.std.specs.Prelude.{ℕ, ◌*◌, eqb, take, drop}
use Rattle.lists.specs.Alias.{Bytes, Words, Places}
use Rattle.table.specs.declared.Table.{Table}
use Rattle.directory.specs.declared.Chain.{Chain}
use Rattle.page.specs.Header as header
use Rattle.page.specs.Found.{Rows}
use Rattle.page.specs.Read.{page_rows, read_page, row_places}
use Rattle.chain.specs.Walk.{Pages}
use Rattle.chain.specs.Along.{rows_along}
use Rattle.chain.specs.Held.{page_held}

-- the bytes of a page of size bytes, as far as the image has them
unfoldable pub page_part : (size : ℕ) (image : Bytes) (number : ℕ) → Bytes
page_part size image number = take size (drop (number * size) image)

unfoldable pub page_next : (size : ℕ) (image : Bytes) (number : ℕ) → ℕ
page_next size image number = header.next_page (page_part size image number)

abbrev pub file_pages : (chain : Chain) (table : Table) (image : Bytes) (map : Words) → Pages
file_pages chain table image map =
    record {
      page_count = chain.page_count;
      is_last = λ (number : ℕ). eqb number chain.last_page;
      held = λ (number : ℕ). page_held chain.len_page map number;
      read = λ (number : ℕ). read_page number table (page_part chain.len_page image number);
      next = λ (number : ℕ). page_next chain.len_page image number;
    }

-- Rule 5.34: the rows of a page, and of the first k pages from a page on
unfoldable pub rows_on : (size : ℕ) (image : Bytes) (number : ℕ) → Rows
rows_on size image number = page_rows number (page_part size image number)

abbrev pub rows_first : (size : ℕ) (image : Bytes) (k page : ℕ) → Rows
rows_first size image k page = rows_along (page_next size image) (rows_on size image) k page

-- the places that are written of a page
unfoldable pub page_places : (size : ℕ) (image : Bytes) (number : ℕ) → Places
page_places size image number = row_places (number * size) (page_part size image number)

-- the places that are written of the first k pages from a page on
abbrev pub places_along : (size : ℕ) (image : Bytes) (k page : ℕ) → Places
places_along size image k page = rows_along (page_next size image) (page_places size image) k page
