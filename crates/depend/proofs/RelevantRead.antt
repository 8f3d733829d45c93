-- Rule 7.10: a relevant byte of a page stands outside its absent rows, in its header only in a field, and on a page that the walk reads: `relevant_read`.
-- Rests on where a page's header, rows and index stand, on proofs/UnnamedHeader and on proofs/RelevantHeld.
use mathlib.Core.Path.{◌≡◌, sym, ◌∙◌}
use mathlib.Core.Bool.{Bool, true, false, not, ◌&&◌, and-false, false≢true}
use Prim.Native.Nat.{ℕ, ◌+◌, ◌-◌, ◌/◌, ◌%◌, ◌<◌, ◌≤◌}
use native.Mathlib.Nat.{div-eq_of_lt}
use native.Mathlib.Omega.{arith}
use lib.ListN.{length}
use lib.Dec.{leb, ltb}
use borrow.Author.Tests.{leb-true, leb-false, lt-leb, ltb-true, not-true}
use Rattle.lists.specs.Alias.{Bytes}
use Rattle.format.specs.Size.{heap_start}
use Rattle.number.specs.Agree.{within}
use Rattle.lists.specs.Any.{any_from}
use Rattle.refusal.specs.Answer.{Answer, given, refused}
use Rattle.table.specs.declared.Table.{Table}
use Rattle.page.specs.Header.{entries}
use Rattle.page.specs.Index.{index_size, present, row_start}
use Rattle.page.specs.Read.{before_index}
use Rattle.page.specs.Bytes.{header_byte, offset_byte, row_byte_at, entry_byte, entries_byte, read_byte, page_byte}
use Rattle.intake.specs.Memory.{Memory, block_at}
use Rattle.directory.specs.Bytes.{directory_byte}
use Rattle.table_walk.specs.Walk.{page_size}
use Rattle.table_walk.specs.Reads.{table_reads}
use Rattle.run.specs.Call.{Question}
use Rattle.depend.specs.Bytes.{page_at, page_with, walked_byte, first_block_byte, table_byte, walked_table, relevant_in, relevant}
use Rattle.depend.specs.Unread.{in_present_row, in_absent_row, absent_row, unnamed_byte, unread_byte, unread_in, unread_for}
use Rattle.lists.proofs.Choice.{on, both_true}
use Rattle.lists.proofs.Any.{any_none, any_not}
use Rattle.number.proofs.NumberAgree.{within_false}
use Rattle.directory.proofs.GoodHeader.{good_header}
use Rattle.table_walk.proofs.PageWalked.{page_walked}
use Rattle.depend.proofs.RelevantHeld.{directory_low}
use Rattle.depend.proofs.UnnamedHeader.{not_flags, not_offset, unnamed_irrelevant}

module _ (table : Table) (page : Bytes) (i : ℕ) (rows : heap_start ≤ i) (index : i < length page - index_size (entries page)) where
  not_header : header_byte i ≡ false
  unfolding header_byte
  not_header =
      let before : (at size : ℕ) → at + size ≤ heap_start → within at size i ≡ false = λ at size l. within_false at size i (λ h k. omega arith) in
      rw (
        before 0x04 4 (omega arith),
        before 0x08 4 (omega arith),
        before 0x0c 4 (omega arith),
        before 0x18 3 (omega arith),
        before 0x1b 1 (omega arith),
      )

  not_entry : in_present_row table page i ≡ false → (j : ℕ) → j < entries page → entry_byte table page j i ≡ false
  unfolding entry_byte offset_byte in_present_row
  not_entry e j h =
      let in_row : ℕ → Bool = λ k. present page k && row_byte_at table (before_index page) (row_start page k) i in
      let row = any_not in_row (entries page) 0 j e (omega arith) (omega arith) in
      simp (not_offset page i index j h, row, and-false)

  not_page : (number : ℕ) → in_present_row table page i ≡ false → page_byte number table page i ≡ false
  unfolding read_byte entries_byte
  not_page number e =
      let none = any_none (λ (j : ℕ). entry_byte table page j i) (entries page) 0 (λ j l h. not_entry e j (omega arith)) in
      simp (not_header, not_flags page i index, none, and-false)

-- a byte of block 0 stands on page 0
first_page : (size i : ℕ) → i < size → 1 ≤ i / size → ⊥
first_page size i h l = omega (arith, div-eq_of_lt h)

-- a row starts behind the page header
behind_header : (page : Bytes) (i : ℕ) → any_from (λ (j : ℕ). not (present page j) && leb (row_start page j) i) (entries page) 0 ≡ true → heap_start ≤ i
unfolding row_start
behind_header page i e =
    on (leb heap_start i) (λ h. leb-true heap_start i h)
    (λ h. let before = leb-false heap_start i h in
    let in_row : ℕ → Bool = λ j. not (present page j) && leb (row_start page j) i in
    let none = any_none in_row (entries page) 0 (λ j k l. simp (lt-leb (row_start page j) i (omega arith), and-false)) in
    absurd (false≢true (sym none ∙ e)))

absent_irrelevant : (number : ℕ) (table : Table) (page : Bytes) (i : ℕ) → absent_row table page i ≡ true → page_byte number table page i ≡ false
unfolding absent_row in_absent_row
absent_irrelevant number table page i e =
    let some = any_from (λ (j : ℕ). not (present page j) && leb (row_start page j) i) (entries page) 0 in
    let both = both_true (in_absent_row page i) (not (in_present_row table page i)) e in
    let absent = both_true (ltb i (length page - index_size (entries page))) some both.0 in
    not_page table page i (behind_header page i absent.1) (ltb-true i _ absent.0) number (not-true (in_present_row table page i) both.1)

module _ (len : ℕ) (m : Memory) (table : Table) (i : ℕ) where
  -- a page walked is not the first, so no byte of block 0 stands on it
  not_first : table_reads len m table (page_at m i) ≡ true → first_block_byte m i ≡ false
  unfolding first_block_byte
  not_first r =
      let w = page_walked len m table (page_at m i) r in
      let whole = good_header len (block_at m.image 0) w.header in
      on (directory_byte (block_at m.image 0) i)
      (λ e. absurd (first_page (page_size m) i (omega (arith, directory_low (block_at m.image 0) i e, whole.least)) w.later))
      (λ e. simp (e, and-false))

  table_read : table_byte len m table i ≡ true → unread_byte len m table i ≡ false
  unfolding table_byte walked_byte unread_byte
  table_read e =
      on (table_reads len m table (page_at m i))
      (λ r. on (absent_row table (page_with m i) (i % page_size m))
      (λ a. absurd (false≢true (rw (not_first r, r, absent_irrelevant (page_at m i) table (page_with m i) (i % page_size m) a) at e)))
      (λ a. on (unnamed_byte (i % page_size m))
      (λ u. absurd (false≢true (rw (not_first r, r, unnamed_irrelevant (page_at m i) table (page_with m i) (i % page_size m) u) at e))) (λ u. rw (r, a, u))))
      (λ r. on (first_block_byte m i) (λ h. rw (r, h)) (λ h. absurd (false≢true (rw (h, r) at e))))

pub relevant_read : (len : ℕ) (m : Memory) (q : Question) (i : ℕ) → relevant len m q i ≡ true → unread_for len m q i ≡ false
unfolding relevant unread_for
relevant_read len m q i = by (walked_table len m q)
  where
    by : (x : Answer Table) → relevant_in len m x i ≡ true → unread_in len m x i ≡ false
    by (given table) e = table_read len m table i e
    by (refused f) e = absurd (false≢true e)
