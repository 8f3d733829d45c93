-- Rules 7.1 to 7.7 and 7.12: the relevant bytes of the image, those that the answer to a question may depend on.
-- Rests on the relevant bytes of block 0 and of a page (directory/Bytes, page/Bytes) and on the pages that a walk reads (table_walk/Reads).
use Rattle.std.specs.Prelude.{Bool, false, ◌&&◌, ◌||◌, ℕ, ◌/◌, ◌%◌}
use Rattle.lists.specs.Alias.{Bytes}
use Rattle.refusal.specs.Answer.{Answer, given, refused}
use Rattle.table.specs.declared.Table.{Table}
use Rattle.page.specs.Bytes.{page_byte}
use Rattle.bitmap.specs.Bit.{bit}
use Rattle.intake.specs.Memory.{Memory, block_at}
use Rattle.directory.specs.Bytes.{directory_byte}
use Rattle.chain.specs.File.{page_part}
use Rattle.table_walk.specs.Asked.{asked_table, asked_slot}
use Rattle.table_walk.specs.Walk.{page_size}
use Rattle.table_walk.specs.Reads.{table_reads}
use Rattle.run.specs.Call.{Question, all_rows, one_record, one_text}

-- the number of the page where byte i of the image stands, and that page's bytes
abbrev pub page_at : Memory → ℕ → ℕ
page_at m i = i / page_size m

abbrev pub page_with : Memory → ℕ → Bytes
page_with m i = page_part (page_size m) m.image (page_at m i)

-- Rules 7.3 to 7.7: byte i is relevant as byte i % len_page of a page that the walk reads
unfoldable pub walked_byte : (len : ℕ) (m : Memory) (table : Table) (i : ℕ) → Bool
walked_byte len m table i = table_reads len m table (page_at m i) && page_byte (page_at m i) table (page_with m i) (i % page_size m)

-- Rule 7.2: byte i is relevant as a byte of block 0
unfoldable pub first_block_byte : Memory → ℕ → Bool
first_block_byte m i = bit m.map 0 && directory_byte (block_at m.image 0) i

-- byte i is relevant where the chain of this table is walked
unfoldable pub table_byte : (len : ℕ) (m : Memory) (table : Table) (i : ℕ) → Bool
table_byte len m table i = first_block_byte m i || walked_byte len m table i

-- Rule 2.28: the table whose chain a question walks, if it is not refused before the file
abbrev pub walked_table : (len : ℕ) (m : Memory) (q : Question) → Answer Table
walked_table len m (all_rows number list) = asked_table len m number
walked_table len m (one_record number k) = asked_table len m number
walked_table len m (one_text number k slot) = asked_slot len m number slot

-- Rule 7.12: where no chain is walked, no byte is relevant
abbrev pub relevant_in : (len : ℕ) (m : Memory) (table : Answer Table) (i : ℕ) → Bool
relevant_in len m (given table) i = table_byte len m table i
relevant_in len m (refused f) i = false

-- byte i of the image is relevant for a question
unfoldable pub relevant : (len : ℕ) (m : Memory) (q : Question) (i : ℕ) → Bool
relevant len m q i = relevant_in len m (walked_table len m q) i
