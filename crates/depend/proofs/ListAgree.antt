-- Rule 7.14: two images that agree on the relevant bytes of an element of a list give the same row, record and strings for it.
--     listed_agree               the row that the element names
--     record_agrees, text_agrees     what is read from it
-- Rests on the agreement laws of crates `directory`, `page` and `row`.
use mathlib.Core.Path.{◌≡◌, refl, ap, ◌∙◌}
use mathlib.Core.Bool.{true}
use Prim.Native.Nat.{ℕ, ◌+◌, ◌*◌, ◌/◌, ◌%◌, ◌<◌}
use lib.ListN.{length, get_or}
use lib.Dec.{leb, ltb}
use borrow.Author.Tests.{eq-eqb, lt-ltb, leb-false}
use Rattle.lists.specs.Alias.{Bytes, Words, Places}
use Rattle.lists.proofs.Choice.{on, or_left, or_right}
use Rattle.format.specs.Place.{linkable}
use Rattle.number.specs.Agree.{Agree}
use Rattle.number.proofs.NumberAgree.{agree_less}
use Rattle.refusal.specs.Answer.{given}
use Rattle.table.specs.declared.Table.{Table}
use Rattle.table.specs.Table.{slot_count}
use Rattle.row.specs.Record.{read_record}
use Rattle.row.specs.Check.{check_row}
use Rattle.row.specs.Bytes.{row_byte}
use Rattle.row.proofs.RowAgree.{record_agree, slot_agree}
use Rattle.page.specs.declared.Row.{Row}
use Rattle.page.specs.Bytes.{one_row_byte}
use Rattle.page.proofs.PageAgree.{one_part, row_read_agree}
use Rattle.page.proofs.OneRowAnswer.{ReadRow, row_read, row_here}
use Rattle.bitmap.specs.Bit.{bit}
use Rattle.intake.specs.Memory.{Memory, memory, block_at}
use Rattle.directory.specs.Header.{header_holds}
use Rattle.directory.proofs.HeaderAgree.{holds_agree}
use Rattle.chain.specs.Found.{found}
use Rattle.chain.specs.Held.{page_held}
use Rattle.chain.specs.File.{page_part}
use Rattle.chain.proofs.Linkable.{both_inside}
use Rattle.chain.proofs.PagePart.{page-of, start_of}
use Rattle.listed.specs.Rank.{page_of, rank}
use Rattle.listed.specs.Listed.{listed_row}
use Rattle.table_walk.specs.Walk.{page_size}
use Rattle.export.specs.Row.{row_part}
use Rattle.export.specs.Record.{record_on, record_at}
use Rattle.export.specs.Text.{text_found, text_on, text_at}
use Rattle.export.specs.FromList.{table_listed, record_listed, text_listed}
use Rattle.export.proofs.ListedRow.{ListedRow, listed_page, then_listed}
use Rattle.depend.specs.Bytes.{first_block_byte}
use Rattle.depend.specs.ListBytes.{element_reads, element_byte, list_byte}
use Rattle.depend.proofs.PartAgree.{page_part_agree, block_agree, size_same}

module _ (len : ℕ) (map : Words) (s t : Bytes) (table : Table) (list : Places) (element : ℕ)
    (a : Agree (list_byte len (memory s map) table list element) s t) where
  abbrev m : Memory
  m = memory s map

  abbrev n : Memory
  n = memory t map

  abbrev size : ℕ
  size = page_size m

  abbrev number : ℕ
  number = page_of size list element

  abbrev start : ℕ
  start = get_or list element 0 % size

  first_bytes : Agree (first_block_byte m) s t
  unfolding list_byte
  first_bytes = agree_less (λ i e. or_left _ e) a

  reads : bit map 0 ≡ true → header_holds len (block_at s 0) ≡ true → element < length list → linkable (len / size) number ≡ true
      → page_held size map number ≡ true → element_reads len m list element ≡ true
  unfolding element_reads
  reads e h l k p = rw (e, h, lt-ltb element (length list) l, k, p)

  page-byte : element_reads len m list element ≡ true → (i : ℕ) → i < size
      → one_row_byte number table (page_part size s number) start (rank size list element) i ≡ true → list_byte len m table list element (number * size + i) ≡ true
  unfolding list_byte element_byte
  page-byte r i h e =
      or_right (first_block_byte m (number * size + i)) (simp (page-of size number i h, start_of size number i h, r, eq-eqb number number refl, e))

  page_agree : element_reads len m list element ≡ true
      → Agree (one_row_byte number table (page_part size s number) start (rank size list element)) (page_part size s number) (page_part size t number)
  page_agree r = page_part_agree a size number (one_row_byte number table (page_part size s number) start (rank size list element)) (page-byte r)

  listed_agree : table_listed len m list element table ≡ table_listed len n list element table
  unfolding table_listed listed_row
  listed_agree =
      on (bit map 0)
      (λ e. let holds = holds_agree (block_agree map s t first_bytes e) len in
      let same = size_same map s t first_bytes e in
      on (header_holds len (block_at s 0))
      (λ h. on (leb (length list) element) (λ l. rw (e, ← holds, h, l) refl)
      (λ l. on (linkable (len / size) number)
      (λ k. on (page_held size map number)
      (λ p. rw (
        e,
        ← holds,
        ← same,
        h,
        l,
        k,
        p,
        row_read_agree number table start (rank size list element) (page_agree (reads e h (leb-false (length list) element l) k p)),
      ) refl)
      (λ p. rw (e, ← holds, ← same, h, l, k, p) refl))
      (λ k. rw (e, ← holds, ← same, h, l, k) refl)))
      (λ h. rw (e, ← holds, h) refl))
      (λ e. rw e refl)

  -- the row of the element, where it is found
  module _ {row : Row} (r : ListedRow len m table list element row) where
    read : ReadRow number table (page_part size s number) start (rank size list element) row
    read = row_read number table (page_part size s number) start (rank size list element) row r.read

    found_reads : element_reads len m list element ≡ true
    found_reads =
        let linked = both_inside (len / size) number r.page.later r.page.inside.inside in
        reads r.page.first r.page.header r.element linked r.page.held

    on_page : row.page ≡ number
    on_page = listed_page len m table list element r

    begins : row.start ≡ start
    begins = ap (λ (own : Row). own.start) read.found ∙ (row_here (page_part size s number) start (rank size list element) read.here).1

    row_agree : Agree (row_byte table (row_part size s row)) (row_part size s row) (row_part size t row)
    unfolding row_part
    row_agree =
        rw (on_page, begins)
        (one_part number table start (rank size list element) (page_agree found_reads) read.header read.rows read.index read.here)

    row_good : check_row table (row_part size s row) ≡ given tt
    unfolding row_part
    row_good = rw (on_page, begins) read.good

    record_same : record_at m table row ≡ record_at n table row
    record_same =
        ap (λ x. given (found (record_on row.page row.entry x))) (record_agree table row_good row_agree)
        ∙ ap (λ (z : ℕ). given (found (record_on row.page row.entry (read_record table (row_part z t row))))) (size_same map s t first_bytes r.page.first)

    text_same : (slot : ℕ) → text_at m table slot row ≡ text_at n table slot row
    text_same slot =
        ap (text_found row size) (slot_agree table row_good row_agree slot)
        ∙ ap (λ (z : ℕ). text_on z t table slot row) (size_same map s t first_bytes r.page.first)

  pub record_agrees : record_listed len m list element table ≡ record_listed len n list element table
  record_agrees = rw (← listed_agree) (then_listed len m table list element (record_at m table) (record_at n table) (λ row r. record_same r))

  pub text_agrees : (slot : ℕ) → text_listed len m list element slot table ≡ text_listed len n list element slot table
  text_agrees slot =
      rw (← listed_agree)
      (on (ltb slot (slot_count table))
      (λ h. rw h (then_listed len m table list element (text_at m table slot) (text_at n table slot) (λ row r. text_same r slot)))
      (λ h. rw h refl))
