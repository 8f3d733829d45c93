-- Rule 7.10: bytes of a page that are not relevant, by where its header, rows and index stand.
--     not_flags, not_offset    a byte before the row index is none of its flags and none of its offsets
--     unnamed_irrelevant       a byte of the header that is no field's is not relevant
use mathlib.Core.Path.{◌≡◌}
use mathlib.Core.Bool.{true, false, not, and-false}
use Prim.Native.Nat.{ℕ, ◌+◌, ◌-◌, ◌<◌}
use native.Mathlib.Omega.{arith}
use lib.ListN.{length}
use lib.Dec.{ltb}
use borrow.Author.Tests.{leb-true, lt-leb, ltb-true, not-true}
use Rattle.lists.specs.Alias.{Bytes}
use Rattle.lists.proofs.Choice.{on, both_true}
use Rattle.lists.proofs.Any.{any_none}
use Rattle.format.specs.Size.{heap_start}
use Rattle.number.specs.Agree.{within}
use Rattle.number.proofs.NumberAgree.{within_false}
use Rattle.table.specs.declared.Table.{Table}
use Rattle.page.specs.Header.{entries}
use Rattle.page.specs.Index.{index_size, flags_at, offset_at, row_start}
use Rattle.page.specs.Read.{index_fits, before_index}
use Rattle.page.specs.Bytes.{header_byte, flags_byte, offset_byte, row_byte_at, entry_byte, entries_byte, read_byte, page_byte}
use Rattle.page.proofs.EntriesInside.{entry_room}
use Rattle.depend.specs.Unread.{unnamed_byte}

module _ (page : Bytes) (i : ℕ) (before : i < length page - index_size (entries page)) where
  pub not_flags : flags_byte page i ≡ false
  unfolding flags_byte flags_at
  not_flags =
      any_none (λ (j : ℕ). within (flags_at page j) 2 i) (entries page) 0 (λ j l h.
      within_false (flags_at page j) 2 i (λ k m. omega (arith, entry_room (entries page) j (omega arith))))

  pub not_offset : (j : ℕ) → j < entries page → within (offset_at page j) 2 i ≡ false
  unfolding offset_at flags_at
  not_offset j h = within_false (offset_at page j) 2 i (λ k l. omega (arith, entry_room (entries page) j h))

module _ (table : Table) (page : Bytes) (i : ℕ) (low : i < heap_start) where
  -- an index that fits stands behind the header
  module _ (f : index_fits page ≡ true) where
    before : i < length page - index_size (entries page)
    unfolding index_fits
    before = omega (arith, leb-true (heap_start + index_size (entries page)) (length page) f)

    not_row : (j : ℕ) → row_byte_at table (before_index page) (row_start page j) i ≡ false
    unfolding row_byte_at row_start
    not_row j = rw (lt-leb (row_start page j) i (omega arith))

    not_entries : entries_byte table page i ≡ false
    unfolding entries_byte entry_byte offset_byte
    not_entries =
        any_none (λ (j : ℕ). entry_byte table page j i) (entries page) 0 (λ j l h. simp (not_offset page i before j (omega arith), not_row j, and-false))

  low_irrelevant : (number : ℕ) → header_byte i ≡ false → page_byte number table page i ≡ false
  unfolding read_byte
  low_irrelevant number h =
      on (index_fits page) (λ f. simp (h, not_flags page i (before f), not_entries f, and-false)) (λ f. simp (h, f, and-false))

pub unnamed_irrelevant : (number : ℕ) (table : Table) (page : Bytes) (i : ℕ) → unnamed_byte i ≡ true → page_byte number table page i ≡ false
unfolding unnamed_byte
unnamed_irrelevant number table page i e =
    let both = both_true (ltb i heap_start) (not (header_byte i)) e in
    low_irrelevant table page i (ltb-true i heap_start both.0) number (not-true (header_byte i) both.1)
