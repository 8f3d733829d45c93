-- Rules 7.3 to 7.7, 7.14: the relevant bytes of a page of this number that is read for this table, whole or for one row.
-- It rests on the relevant bytes of a row (row/Bytes).
use Rattle.std.specs.Prelude.{Bool, not, ◌&&◌, ◌||◌, ℕ, ◌-◌, length, drop, ltb, leb}
use Rattle.lists.specs.Alias.{Bytes}
use Rattle.number.specs.Agree.{within}
use Rattle.lists.specs.Any.{any_from}
use Rattle.table.specs.declared.Table.{Table}
use Rattle.row.specs.Bytes.{row_byte}
use Rattle.page.specs.Header.{header_agrees, rowless, entries}
use Rattle.page.specs.Index.{flags_at, offset_at, present, row_start}
use Rattle.page.specs.Read.{index_fits, count_agrees, before_index}
use Rattle.page.specs.OneRow.{is_row}

-- Rule 7.3: page_index, type, next_page, the row counts, page_flags
unfoldable pub header_byte : ℕ → Bool
header_byte i = within 0x04 4 i || (within 0x08 4 i || (within 0x0c 4 i || (within 0x18 3 i || within 0x1b 1 i)))

-- Rule 7.5: the presence flags of an entry's group
unfoldable pub flags_byte : (page : Bytes) (i : ℕ) → Bool
flags_byte page i = any_from (λ (j : ℕ). within (flags_at page j) 2 i) (entries page) 0

-- Rule 7.5: the offset of entry j, where it is present
unfoldable pub offset_byte : (page : Bytes) (j i : ℕ) → Bool
offset_byte page j i = present page j && within (offset_at page j) 2 i

-- Rules 7.6, 7.7: byte i of the page is a relevant byte of the row at start; before is the part before the index.
unfoldable pub row_byte_at : (table : Table) (before : Bytes) (start i : ℕ) → Bool
row_byte_at table before start i = leb start i && (ltb i (length before) && row_byte table (drop start before) (i - start))

-- Rules 7.5, 7.6: the offset and the row of entry j, where it is present
unfoldable pub entry_byte : (table : Table) (page : Bytes) (j i : ℕ) → Bool
entry_byte table page j i = offset_byte page j i || (present page j && row_byte_at table (before_index page) (row_start page j) i)

-- those of one of the entries
unfoldable pub entries_byte : (table : Table) (page : Bytes) (i : ℕ) → Bool
entries_byte table page i = any_from (λ (j : ℕ). entry_byte table page j i) (entries page) 0

-- Rule 7.4: nothing beyond the header where the header disagrees, flag `40` is set or the index does not fit, and beyond that
-- only flags where their ones are not as many as the page counts. Where the index is good, more says what else is relevant.
unfoldable pub read_byte : (number : ℕ) (table : Table) (page : Bytes) (more : ℕ → Bool) (i : ℕ) → Bool
read_byte number table page more i =
    header_byte i || (header_agrees number table page && (not (rowless page) && (index_fits page
    && (flags_byte page i || (count_agrees page && more i)))))

-- Rules 7.3 to 7.7: a page that is read whole
abbrev pub page_byte : (number : ℕ) (table : Table) (page : Bytes) (i : ℕ) → Bool
page_byte number table page = read_byte number table page (entries_byte table page)

-- Rule 7.14: of a good index all present entries' offsets, and of the rows this one alone
unfoldable pub named_byte : (table : Table) (page : Bytes) (start rank i : ℕ) → Bool
named_byte table page start rank i =
    any_from (λ (j : ℕ). offset_byte page j i) (entries page) 0 || (is_row page start rank && row_byte_at table (before_index page) start i)

-- Rule 7.14: a page of which one row is read, named by its start and its rank
abbrev pub one_row_byte : (number : ℕ) (table : Table) (page : Bytes) (start rank i : ℕ) → Bool
one_row_byte number table page start rank = read_byte number table page (named_byte table page start rank)
