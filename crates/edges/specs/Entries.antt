-- Rules 9.19 and 9.20: which half of a page's header is wrong, and where a row stands, as cases and of every page.
use Rattle.std.specs.Prelude.{◌≡◌, true, false, List, [], ◌∷◌, ◌⊎◌, ℕ, suc, ◌<◌, ◌≤◌, length, get_or, drop}
use Rattle.std.proofs.lemmas.List.Edits.{sets}
use Rattle.lists.specs.Alias.{Bytes}
use Rattle.refusal.specs.declared.Fault.{Fault}
use Rattle.refusal.specs.Fault.{fault, fault_at}
use Rattle.refusal.specs.Answer.{Answer, given, refused}
use Rattle.table.specs.declared.Table.{Table}
use Rattle.table.specs.declared.Table.TheVariants.{Genres}
use Rattle.row.specs.Check.{check_row}
use Rattle.page.specs.declared.Row.{Row}
use Rattle.page.specs.Header.{number_agrees, type_agrees, entries}
use Rattle.page.specs.Index.{present, row_start}
use Rattle.page.specs.Found.{Rows, no_row}
use Rattle.page.specs.Read.{before_index, read_page}
use Rattle.edges.specs.Counts.{counted_page, one_set, none_set, bad_name}

-- what page 1 of a table of genres is said to answer
pub record PageCase : Type 0 where
  pub page : Bytes
  pub said : Answer Rows

infix 20 ◌answers◌
abbrev pub ◌answers◌ : Bytes → Answer Rows → PageCase
page answers said = record { page = page; said = said }

-- a row of page 1
abbrev pub row : (entry start : ℕ) → Row
row entry start = record { page = 1; entry = entry; start = start }

-- the second of two entries is present; both are; the first of the second group is; the row of the second of two starts at the index
abbrev pub second : Bytes
second = counted_page (0x02 ∷ 0x20 ∷ 0x00 ∷ []) one_set none_set

abbrev pub both : Bytes
both = counted_page (0x02 ∷ 0x40 ∷ 0x00 ∷ []) (0x03 ∷ 0 ∷ []) none_set

abbrev pub seventeenth : Bytes
seventeenth = counted_page (0x11 ∷ 0x20 ∷ 0x00 ∷ []) none_set (0x01 ∷ 0 ∷ [])

abbrev pub at_index : Bytes → Bytes
at_index page = sets page 504 (0xd0 ∷ 0x01 ∷ [])

-- with other bytes for page_index and type, and with flag `40`
abbrev pub other_number : Bytes → Bytes
other_number page = sets page 0x04 (2 ∷ [])

abbrev pub other_type : Bytes → Bytes
other_type page = sets page 0x08 (2 ∷ [])

abbrev pub flagged : Bytes → Bytes
flagged page = sets page 0x1b (0x40 ∷ [])

-- Rule 9.19
abbrev pub entry_cases : List PageCase
entry_cases =
    -- the number is wrong, the type, the highest byte of the type, and both
    (other_number both answers refused (fault 12 1)) ∷ (other_type both answers refused (fault 25 1)) ∷
    (sets both 0x0b (1 ∷ []) answers refused (fault 25 1)) ∷ (other_number (other_type both) answers refused (fault 12 1)) ∷
    -- the same with flag `40`, and with a number of entries that does not fit
    (other_type (flagged both) answers refused (fault 25 1)) ∷ (other_number (other_type (flagged both)) answers refused (fault 12 1)) ∷
    (other_type (sets both 0x18 (0xff ∷ 0xff ∷ [])) answers refused (fault 25 1)) ∷
    -- an absent entry counts, and two entries may name one row
    (second answers given (row 1 0x28 ∷ [])) ∷ (both answers given (row 0 0x28 ∷ row 1 0x28 ∷ [])) ∷
    (seventeenth answers given (row 16 0x28 ∷ [])) ∷
    -- a malformed string, at the first present entry; a row that does not fit
    (bad_name second answers refused (fault_at 15 1 1)) ∷ (bad_name both answers refused (fault_at 15 1 0)) ∷
    (bad_name seventeenth answers refused (fault_at 15 1 16)) ∷ (at_index both answers refused (fault_at 14 1 1)) ∷
    -- both, the string first and the row first
    (bad_name (at_index both) answers refused (fault_at 15 1 0)) ∷ (bad_name (at_index second) answers refused (fault_at 14 1 1)) ∷ []

abbrev pub EntriesHold : List PageCase → Type 0
EntriesHold [] = Unit {0}
EntriesHold (c ∷ cs) = (read_page 1 Genres c.page ≡ c.said) × EntriesHold cs

-- what is true of each row that is found on a page
pub record RowOf (number : ℕ) (page : Bytes) (found : Row) : Type 0 where
  pub on : found.page ≡ number
  pub inside : found.entry < entries page
  pub there : present page found.entry ≡ true
  pub begins : found.start ≡ row_start page found.entry

-- Rule 9.20
pub record EveryEntry (number : ℕ) (table : Table) (page : Bytes) : Type 0 where
  -- a wrong number is 12 whatever else the page has, and then a wrong type is 25
  pub number_first : number_agrees number page ≡ false → read_page number table page ≡ refused (fault 12 number)
  pub type_next : number_agrees number page ≡ true → type_agrees table page ≡ false → read_page number table page ≡ refused (fault 25 number)
  -- each row has its own entry, a present one, and starts where that says; their entries grow
  pub rows : (found : Rows) → read_page number table page ≡ given found → (k : ℕ) → k < length found → RowOf number page (get_or found k no_row)
  pub grow : (found : Rows) → read_page number table page ≡ given found → (k : ℕ) → suc k < length found
      → (get_or found k no_row).entry < (get_or found (suc k) no_row).entry
  -- each fault carries the page, and each but 14 and 15 entry 0
  pub carried : (f : Fault) → read_page number table page ≡ refused f → (f.value ≡ number) × ((f.entry ≡ 0) ⊎ (14 ≤ f.number) × (f.number ≤ 15))
  -- 14 and 15 carry a present entry, and its row is not good
  pub faults : (f : Fault) → read_page number table page ≡ refused f → (f.number ≡ 14) ⊎ (f.number ≡ 15)
      → (f.entry < entries page) × (present page f.entry ≡ true) × (check_row table (drop (row_start page f.entry) (before_index page)) ≡ given tt → ⊥)

abbrev pub EveryPage : Type 0
EveryPage = (number : ℕ) (table : Table) (page : Bytes) → EveryEntry number table page
