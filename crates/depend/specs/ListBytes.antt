-- Rules 7.14 and 7.12: the relevant bytes of the image where a row is read from a list: those of block 0, and of one page.
-- Rests on the relevant bytes of block 0 (specs/Bytes) and of a page of which one row is read (page/Bytes `one_row_byte`).
use Rattle.std.specs.Prelude.{Bool, false, ◌&&◌, ◌||◌, ℕ, ◌/◌, ◌%◌, length, get_or, ltb, eqb}
use Rattle.lists.specs.Alias.{Places}
use Rattle.format.specs.Place.{linkable}
use Rattle.refusal.specs.Answer.{Answer, given, refused}
use Rattle.table.specs.declared.Table.{Table}
use Rattle.page.specs.Bytes.{one_row_byte}
use Rattle.bitmap.specs.Bit.{bit}
use Rattle.intake.specs.Memory.{Memory, block_at}
use Rattle.directory.specs.Header.{header_holds}
use Rattle.chain.specs.Held.{page_held}
use Rattle.listed.specs.Rank.{page_of, rank}
use Rattle.table_walk.specs.Asked.{asked_table, asked_slot}
use Rattle.table_walk.specs.Walk.{page_size}
use Rattle.run.specs.Call.{CallReply, row, text}
use Rattle.export.specs.FromList.{ask_record_in, ask_text_in}
use Rattle.depend.specs.Bytes.{page_at, page_with, first_block_byte}

-- what is read from a list
pub data Reading : Type 0 where
  record_from : (table : ℕ) (list : Places) (element : ℕ) → Reading
  text_from : (table : ℕ) (list : Places) (element slot : ℕ) → Reading

-- what it answers
abbrev pub read_answer : (len : ℕ) (m : Memory) (r : Reading) → CallReply
read_answer len m (record_from table list element) = row (ask_record_in len m table list element)
read_answer len m (text_from table list element slot) = text (ask_text_in len m table list element slot)

-- is true exactly when the page of an element is read: block 0 is held, its header holds, and the element names a page of the file that is held
unfoldable pub element_reads : (len : ℕ) (m : Memory) (list : Places) (element : ℕ) → Bool
element_reads len m list element =
    (bit m.map 0 && header_holds len (block_at m.image 0)) && (ltb element (length list)
    && (linkable (len / page_size m) (page_of (page_size m) list element) && page_held (page_size m) m.map (page_of (page_size m) list element)))

-- byte i of the image is relevant as byte i % len_page of that page
unfoldable pub element_byte : (len : ℕ) (m : Memory) (table : Table) (list : Places) (element i : ℕ) → Bool
element_byte len m table list element i =
    element_reads len m list element && (eqb (page_at m i) (page_of (page_size m) list element)
    && one_row_byte (page_at m i) table (page_with m i) (get_or list element 0 % page_size m) (rank (page_size m) list element) (i % page_size m))

unfoldable pub list_byte : (len : ℕ) (m : Memory) (table : Table) (list : Places) (element i : ℕ) → Bool
list_byte len m table list element i = first_block_byte m i || element_byte len m table list element i

-- Rule 7.12: where nothing is read, no byte is relevant
abbrev pub list_byte_in : (len : ℕ) (m : Memory) (list : Places) (element : ℕ) (table : Answer Table) (i : ℕ) → Bool
list_byte_in len m list element (given table) i = list_byte len m table list element i
list_byte_in len m list element (refused f) i = false

-- byte i of the image is relevant for reading from a list
abbrev pub read_relevant : (len : ℕ) (m : Memory) (r : Reading) (i : ℕ) → Bool
read_relevant len m (record_from table list element) i = list_byte_in len m list element (asked_table len m table) i
read_relevant len m (text_from table list element slot) i = list_byte_in len m list element (asked_slot len m table slot) i
