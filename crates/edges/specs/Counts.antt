-- Rules 9.17 and 9.18: row counts near their edges, as cases and of every page.
use Rattle.std.specs.Prelude.{◌≡◌, true, false, List, [], ◌∷◌, ℕ, ◌<◌, length, replicate}
use Rattle.std.proofs.lemmas.List.Edits.{sets}
use Rattle.lists.specs.Alias.{Bytes}
use Rattle.number.specs.Number.{byte_at}
use Rattle.refusal.specs.Fault.{fault}
use Rattle.refusal.specs.Answer.{given, refused}
use Rattle.table.specs.declared.Table.{Table}
use Rattle.page.specs.Header.{header_agrees, rowless, entries, num_rows}
use Rattle.page.specs.Index.{present_from}
use Rattle.page.specs.Found.{Rows}
use Rattle.page.specs.Read.{read_page}
use Rattle.edges.specs.Cases.{Outcome, counts, rows, refusal, Case, ◌is◌, genre_page, page_reads}

-- both counts of a page header with these bytes at `18`
abbrev pub counts_in : Bytes → Outcome
counts_in bytes = let page = sets (replicate 40 0) 0x18 bytes in counts (entries page) (num_rows page)

-- page 1 of a table of genres, of 512 bytes, with these bytes at `18` and these flags of groups 0 and 1; each entry's row stands at `28` and has an
-- empty name
abbrev pub counted_page : (bytes first second : Bytes) → Bytes
counted_page bytes first second = sets (sets (sets (sets (genre_page 0) 0x18 bytes) 0x2c (0x03 ∷ [])) 508 first) 472 second

-- flags of a group: all set, the second alone, none
abbrev pub all_set : Bytes
all_set = 0xff ∷ 0xff ∷ []

abbrev pub one_set : Bytes
one_set = 0x02 ∷ 0 ∷ []

abbrev pub none_set : Bytes
none_set = 0 ∷ 0 ∷ []

-- such a page with a malformed name
abbrev pub bad_name : Bytes → Bytes
bad_name page = sets page 0x2c (0x01 ∷ [])

-- Rule 9.17
abbrev pub count_cases : List Case
count_cases =
    -- both counts at 0, as in case D, with n at its limit, with bit 12 and with bit 13 alone, and both at their limits
    (counts_in (0x00 ∷ 0x00 ∷ 0x00 ∷ []) is counts 0 0) ∷ (counts_in (0x02 ∷ 0x20 ∷ 0x00 ∷ []) is counts 2 1) ∷
    (counts_in (0xff ∷ 0x1f ∷ 0x00 ∷ []) is counts 8191 0) ∷ (counts_in (0x00 ∷ 0x10 ∷ 0x00 ∷ []) is counts 4096 0) ∷
    (counts_in (0x00 ∷ 0x20 ∷ 0x00 ∷ []) is counts 0 1) ∷ (counts_in (0xff ∷ 0xff ∷ 0xff ∷ []) is counts 8191 2047) ∷
    -- page_flags behind them is no part of them
    (counts_in (0x02 ∷ 0x20 ∷ 0x00 ∷ 0x24 ∷ []) is counts 2 1) ∷
    -- one of two entries present, counted as one, as two and as none
    (page_reads (counted_page (0x02 ∷ 0x20 ∷ 0x00 ∷ []) one_set none_set) is rows 1) ∷
    (page_reads (counted_page (0x02 ∷ 0x40 ∷ 0x00 ∷ []) one_set none_set) is refusal 13) ∷
    (page_reads (counted_page (0x02 ∷ 0x00 ∷ 0x00 ∷ []) one_set none_set) is refusal 13) ∷
    -- 15, 16 and 17 entries, all present and counted; flags past them are no entries'
    (page_reads (counted_page (0x0f ∷ 0xe0 ∷ 0x01 ∷ []) all_set none_set) is rows 15) ∷
    (page_reads (counted_page (0x10 ∷ 0x00 ∷ 0x02 ∷ []) all_set all_set) is rows 16) ∷
    (page_reads (counted_page (0x11 ∷ 0x20 ∷ 0x02 ∷ []) all_set all_set) is rows 17) ∷
    -- 17 entries, counted as 16, and as the 32 ones of their groups
    (page_reads (counted_page (0x11 ∷ 0x00 ∷ 0x02 ∷ []) all_set all_set) is refusal 13) ∷
    (page_reads (counted_page (0x11 ∷ 0x00 ∷ 0x04 ∷ []) all_set all_set) is refusal 13) ∷
    -- 8,191 entries do not fit the page, counted as none and as 2,047 rows
    (page_reads (counted_page (0xff ∷ 0x1f ∷ 0x00 ∷ []) none_set none_set) is refusal 13) ∷
    (page_reads (counted_page (0xff ∷ 0xff ∷ 0xff ∷ []) none_set none_set) is refusal 13) ∷
    -- a page with flag `40` is not counted
    (page_reads (counted_page (0x02 ∷ 0x40 ∷ 0x00 ∷ 0x64 ∷ []) one_set none_set) is rows 0) ∷
    -- a malformed name is 15 where the count is right, and not looked at where it is not
    (page_reads (bad_name (counted_page (0x02 ∷ 0x20 ∷ 0x00 ∷ []) one_set none_set)) is refusal 15) ∷
    (page_reads (bad_name (counted_page (0x02 ∷ 0x40 ∷ 0x00 ∷ []) one_set none_set)) is refusal 13) ∷ []

-- Rule 9.18
pub record EveryCount : Type 0 where
  -- a page that is read, other than one with flag `40`, has as many rows as it counts
  pub counted : (number : ℕ) (table : Table) (page : Bytes) (rows : Rows) → read_page number table page ≡ given rows → rowless page ≡ false
      → length rows ≡ num_rows page
  -- more than 2,047 present rows are refused, whatever the page counts
  pub too_many : (number : ℕ) (table : Table) (page : Bytes) → ((i : ℕ) → byte_at page i < 256) → header_agrees number table page ≡ true → rowless page ≡ false
      → 2047 < length (present_from page (entries page) 0) → read_page number table page ≡ refused (fault 13 number)
