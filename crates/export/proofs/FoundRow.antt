-- The rows that the walk for a table finds (table_walk/Walk): each is a present row of a page that the walk reads, and passes the row check.
--     FoundRow, rows_found     what is known of each
--     row_read_same            with more blocks held, what is read from a row of a page that is held is the same
--     row_text                 it has no malformed string (rule 5.26)
-- Rests on the pages that the walk reads and the rows on them (table_walk: PageWalked, EachFound).
use mathlib.Core.Path.{◌≡◌, ap, ◌∙◌}
use mathlib.Core.Bool.{true}
use mathlib.Core.Option.{none}
use Prim.Native.Nat.{ℕ, ◌<◌}
use lib.ListN.{length, drop, get_or}
use Rattle.lists.specs.Alias.{Bytes}
use Rattle.refusal.specs.Answer.{given, fault_in}
use Rattle.table.specs.declared.Table.{Table}
use Rattle.table.specs.Table.{slot_count}
use Rattle.row.specs.Check.{check_row}
use Rattle.row.specs.Slot.{slot_text}
use Rattle.page.specs.Header.{header_agrees}
use Rattle.page.specs.declared.Row.{Row}
use Rattle.page.specs.Found.{Rows, no_row}
use Rattle.page.specs.Read.{before_index, page_rows, read_page}
use Rattle.intake.specs.Sound.{Sound}
use Rattle.intake.specs.Memory.{Memory, block_at}
use Rattle.directory.specs.Header.{len_page}
use Rattle.chain.specs.File.{page_part, file_pages, rows_on}
use Rattle.table_walk.specs.Walk.{page_size, table_walk}
use Rattle.table_walk.specs.Reads.{table_reads}
use Rattle.export.specs.Row.{row_part}
use Rattle.lists.proofs.Each.{Each, each_at, each_every}
use Rattle.row.proofs.GoodRow.{good_text}
use Rattle.page.proofs.PageAnswer.{GoodPage, page_read, page_row, rows_good}
use Rattle.directory.proofs.ChainAnswer.{chain_given}
use Rattle.table_walk.proofs.SameBlocks.{MoreBlocks, first_same, part_same}
use Rattle.table_walk.proofs.TableWalk.{table_walk_holds}
use Rattle.table_walk.proofs.PageWalked.{PageWalked, reads_table, page_walked}
use Rattle.table_walk.proofs.EachFound.{EachFound, found_each}

pub record FoundRow (len : ℕ) (m : Memory) (table : Table) (row : Row) : Type 0 where
  pub walked : table_reads len m table row.page ≡ true
  pub page : PageWalked len m row.page
  pub header : header_agrees row.page table (page_part (page_size m) m.image row.page) ≡ true
  pub rank : ℕ
  pub below : rank < length (rows_on (page_size m) m.image row.page)
  pub here : get_or (rows_on (page_size m) m.image row.page) rank no_row ≡ row
  pub good : check_row table (row_part (page_size m) m.image row) ≡ given tt

module _ (len : ℕ) (m : Memory) (table : Table) where
  page_found : (number : ℕ) → table_reads len m table number ≡ true → (rows : Rows)
      → read_page number table (page_part (page_size m) m.image number) ≡ given rows → Each (FoundRow len m table) rows
  unfolding row_part rows_on
  page_found number w rows e = rw read.found (each_every (FoundRow len m table) all no_row one)
    where
      page : Bytes
      page = page_part (page_size m) m.image number

      all : Rows
      all = page_rows number page

      read : GoodPage number table page rows
      read = page_read number table page rows e

      one : (k : ℕ) → k < length all → FoundRow len m table (get_or all k no_row)
      one k h =
          let found = rw read.found at (page_row number table page rows e k) in
          let on = ap (λ (row : Row). row.page) (found h) in
          let good = each_at (λ (row : Row). check_row table (drop row.start (before_index page)) ≡ given tt) all k no_row (rows_good table (before_index page) all read.good) h in
          record {
            walked = rw on w;
            page = rw on (page_walked len m table number w);
            header = rw on read.header;
            rank = k;
            below = rw on h;
            here = rw on;
            good = rw on good;
          }

  pub rows_found : EachFound (FoundRow len m table) (table_walk len m table)
  rows_found =
      table_walk_holds len m table (EachFound (FoundRow len m table)) tt (λ _ _. tt)
      (λ c b q. let size = (chain_given len (block_at m.image 0) table c q).linked.len_page in
      found_each (FoundRow len m table) (file_pages c table m.image m.map) c.first_page
      (λ page rows r g. page_found page (reads_table len m table page b (rw q r)) rows (rw size at g)))

pub row_text : {len : ℕ} {m : Memory} {table : Table} {row : Row} → FoundRow len m table row
    → (slot : ℕ) → slot < slot_count table → fault_in (slot_text table (row_part (page_size m) m.image row) slot) ≡ none
row_text {m = m} {table} {row} r slot h = good_text table (row_part (page_size m) m.image row) slot r.good h

-- a row on a page that is held
module _ {len : ℕ} {a b : Memory} (sound_a : Sound len a) (sound_b : Sound len b)
    (more : MoreBlocks len a b) (row : Row) (p : PageWalked len a row.page) where
  size_same : page_size a ≡ page_size b
  size_same = ap len_page (first_same more sound_a sound_b p.first)

  row_same : row_part (page_size a) a.image row ≡ row_part (page_size b) b.image row
  unfolding row_part
  row_same =
      ap (λ (page : Bytes). drop row.start (before_index page)) (part_same more sound_a sound_b p.inside p.held)
      ∙ ap (λ (size : ℕ). row_part size b.image row) size_same

  -- whatever is read from the row, by its bytes and the size of its page
  pub row_read_same : {A : Type 0} (read : (size : ℕ) (bytes : Bytes) → A)
      → read (page_size a) (row_part (page_size a) a.image row) ≡ read (page_size b) (row_part (page_size b) b.image row)
  row_read_same read = ap (read (page_size a)) row_same ∙ ap (λ (size : ℕ). read size (row_part (page_size b) b.image row)) size_same
