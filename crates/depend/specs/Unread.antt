-- Rules 7.9 and 7.10: the bytes of held blocks, and those of absent rows, of page headers outside their fields and of pages that the walk does not read.
-- Rests on specs/Bytes.
use Rattle.std.specs.Prelude.{Bool, true, cond, not, ◌&&◌, ◌||◌, ℕ, ◌-◌, ◌/◌, ◌%◌, length, leb, ltb}
use Rattle.lists.specs.Alias.{Bytes, Words}
use Rattle.lists.specs.Any.{any_from}
use Rattle.format.specs.Size.{block_size, heap_start}
use Rattle.refusal.specs.Answer.{Answer, given, refused}
use Rattle.table.specs.declared.Table.{Table}
use Rattle.page.specs.Header.{entries}
use Rattle.page.specs.Index.{index_size, present, row_start}
use Rattle.page.specs.Read.{before_index}
use Rattle.page.specs.Bytes.{header_byte, row_byte_at}
use Rattle.bitmap.specs.Bit.{bit}
use Rattle.intake.specs.Memory.{Memory}
use Rattle.table_walk.specs.Walk.{page_size}
use Rattle.table_walk.specs.Reads.{table_reads}
use Rattle.run.specs.Call.{Question}
use Rattle.depend.specs.Bytes.{page_at, page_with, first_block_byte, walked_table}

-- Rule 7.9: byte i is one of the file, and its block is held
unfoldable pub held_byte : (len : ℕ) (map : Words) (i : ℕ) → Bool
held_byte len map i = ltb i len && bit map (i / block_size)

-- byte i of a page is a relevant byte of one of its present rows
unfoldable pub in_present_row : (table : Table) (page : Bytes) (i : ℕ) → Bool
in_present_row table page i = any_from (λ (j : ℕ). present page j && row_byte_at table (before_index page) (row_start page j) i) (entries page) 0

-- byte i of a page stands before the row index, at or behind the start of one of its absent rows: nothing says where such a row ends
unfoldable pub in_absent_row : Bytes → ℕ → Bool
in_absent_row page i =
    ltb i (length page - index_size (entries page)) && any_from (λ (j : ℕ). not (present page j) && leb (row_start page j) i) (entries page) 0

-- Rule 7.10: an absent row's byte, unless it belongs to a present row
unfoldable pub absent_row : (table : Table) (page : Bytes) (i : ℕ) → Bool
absent_row table page i = in_absent_row page i && not (in_present_row table page i)

-- Rule 7.10: byte i of a page stands in its header, and in none of the header's fields
unfoldable pub unnamed_byte : ℕ → Bool
unnamed_byte i = ltb i heap_start && not (header_byte i)

-- Rule 7.10: of a page that the walk reads, the bytes of its absent rows and those of its header outside the fields; of any other, all but the
-- relevant ones of block 0
unfoldable pub unread_byte : (len : ℕ) (m : Memory) (table : Table) (i : ℕ) → Bool
unread_byte len m table i =
    cond (table_reads len m table (page_at m i)) (absent_row table (page_with m i) (i % page_size m) || unnamed_byte (i % page_size m)) (not (first_block_byte m i))

-- Rule 7.12: where no chain is walked, every byte is unread
abbrev pub unread_in : (len : ℕ) (m : Memory) (table : Answer Table) (i : ℕ) → Bool
unread_in len m (given table) i = unread_byte len m table i
unread_in len m (refused f) i = true

unfoldable pub unread_for : (len : ℕ) (m : Memory) (q : Question) (i : ℕ) → Bool
unread_for len m q i = unread_in len m (walked_table len m q) i
