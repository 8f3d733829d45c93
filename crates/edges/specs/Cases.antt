-- Rule 9.1: C1 to C6 and C9 to C12 as one list of cases. A case holds when what the definitions find is what the rule says.
-- The definitions are those that the public contracts cite, and so are the numbers of refusals.
use Rattle.std.specs.Prelude.{◌≡◌, Bool, true, List, [], ◌∷◌, ℕ, length, set, replicate, take, drop}
use Rattle.lists.specs.Alias.{Bytes}
use Rattle.refusal.specs.Answer.{Answer, given, refused, and_then}
use Rattle.table.specs.declared.Table.TheVariants.{Genres}
use Rattle.text.specs.declared.Encoding.{Encoding}
use Rattle.text.specs.declared.Encoding.TheVariants.{Ascii, Utf16}
use Rattle.text.specs.Text.{TextAt}
use Rattle.row.specs.Check.{check_row}
use Rattle.row.specs.Slot.{slot_text}
use Rattle.page.specs.Index.{index_size}
use Rattle.page.specs.Read.{index_fits, read_page}
use Rattle.intake.specs.Open.{OpenedFile, opened, opening}

-- what a case finds
pub data Outcome : Type 0 where
  refusal : (number : ℕ) → Outcome
  blocks : ℕ → Outcome
  bytes : ℕ → Outcome
  counts : (entries rows : ℕ) → Outcome
  fits : Bool → Outcome
  text : Bytes → Outcome
  utf16 : Bytes → Outcome
  rows : ℕ → Outcome

pub record Case : Type 0 where
  pub found : Outcome
  pub said : Outcome

infix 20 ◌is◌
abbrev pub ◌is◌ : Outcome → Outcome → Case
found is said = record { found = found; said = said }

-- what was asked for, or the refusal's number
abbrev pub outcome : {A : Type 0} (found : A → Outcome) (answer : Answer A) → Outcome
outcome found (given x) = found x
outcome found (refused fault) = refusal fault.number

-- opening a file of this length, with an image of one block and a map of one word
abbrev pub opened_blocks : OpenedFile → Outcome
opened_blocks (opened len count) = blocks count

abbrev pub opens : (len : ℕ) → Outcome
opens len = outcome opened_blocks (opening len (replicate 512 0) (0 ∷ [])).answer

-- page 1 of a table of genres, of 512 bytes, with so many entries, none present
abbrev pub genre_page : (entries : ℕ) → Bytes
genre_page entries = set (set (set (replicate 512 0) 0x04 1) 0x08 1) 0x18 entries

abbrev pub page_reads : (page : Bytes) → Outcome
page_reads page = outcome (λ places. rows (length places)) (read_page 1 Genres page)

-- a text's bytes, by its encoding
abbrev pub encoded : Encoding → Bytes → Outcome
encoded Ascii string = text string
encoded Utf16 string = utf16 string

abbrev pub text_outcome : (part : Bytes) (found : TextAt) → Outcome
text_outcome part found = encoded found.encoding (take found.len (drop found.place part))

-- the text of a genre's name, in a row of an id and then the string
abbrev pub names : (string : Bytes) → Outcome
names string =
    let row : Bytes = 7 ∷ 0 ∷ 0 ∷ 0 ∷ string in
    outcome (text_outcome row) (and_then (check_row Genres row) (λ _. slot_text Genres row 0))

abbrev pub cases : List Case
cases =
    -- C1 to C3
    (opens 0 is refusal 1) ∷ (opens 512 is blocks 1) ∷ (opens 268_435_968 is refusal 1) ∷
    -- C4
    (bytes (index_size 0) is bytes 0) ∷ (bytes (index_size 1) is bytes 6) ∷ (bytes (index_size 16) is bytes 36) ∷ (bytes (index_size 17) is bytes 42) ∷
    -- C5, C6
    (bytes (index_size 208) is bytes 468) ∷ (fits (index_fits (genre_page 208)) is fits true) ∷
    (bytes (index_size 209) is bytes 474) ∷ (page_reads (genre_page 209) is refusal 13) ∷
    -- C9 to C12
    (names (0x03 ∷ []) is text []) ∷ (names (0x01 ∷ []) is refusal 15) ∷
    (names (0x09 ∷ 0x41 ∷ 0x42 ∷ 0x43 ∷ []) is text (0x41 ∷ 0x42 ∷ 0x43 ∷ [])) ∷
    (names (0x90 ∷ 0x05 ∷ 0x00 ∷ 0x00 ∷ 0x41 ∷ []) is refusal 15) ∷ []

abbrev pub AllHold : List Case → Type 0
AllHold [] = Unit {0}
AllHold (c ∷ cs) = (c.found ≡ c.said) × AllHold cs
