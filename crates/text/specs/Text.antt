-- Section 6: what the string at an offset of a row's part is. It rests on the numbers of crate number.
-- s is the row's own part, from the row's start to the row index: to end where the index begins, or before, is to lie inside s.
-- The page and the entry, which 15 carries, are not known here; reading a page sets them (page/Read `on_row`).
use Rattle.std.specs.Prelude.{Bool, cond, not, ◌&&◌, ◌||◌, ℕ, ◌+◌, ◌-◌, ◌/◌, ◌%◌, length, leb, eqb, Option, Some, None}
use Rattle.lists.specs.Alias.{Bytes}
use Rattle.number.specs.Number.{byte_at, le16}
use Rattle.refusal.specs.Fault.{fault}
use Rattle.refusal.specs.Answer.{Answer, given, refused, refuse_if}
use Rattle.table.specs.declared.Table.{Table}
use Rattle.text.specs.Code.{is_code, code_length}
use Rattle.text.specs.declared.Encoding.{Encoding}
use Rattle.text.specs.declared.Encoding.TheVariants.{Ascii, Utf16}
use Rattle.text.specs.declared.Text.{Text}

-- Rule 6.10: a text's first byte, its length in bytes and its encoding.
pub record TextAt : Type 0 where
  pub place : ℕ
  pub len : ℕ
  pub encoding : Encoding

-- Rule 6.1: by its first byte a string is short (odd) or long (`40`, `90`).
abbrev pub is_short : ℕ → Bool
is_short first = eqb (first % 2) 1

abbrev pub is_long : ℕ → Bool
is_long first = eqb first 0x40 || eqb first 0x90

-- Rules 6.2, 6.3: bytes of the head, and of the whole string at an offset.
unfoldable pub head_size : ℕ → ℕ
head_size first = cond (is_long first) 4 1

unfoldable pub whole_size : (s : Bytes) (at first : ℕ) → ℕ
whole_size s at first = cond (is_long first) (le16 s (at + 1)) (first / 2)

-- Rules 6.2, 6.4, 6.5.
abbrev pub encoding_in : ℕ → Encoding
encoding_in first = cond (eqb first 0x90) Utf16 Ascii

-- Rules 6.2, 6.3, 6.6: a string has its head at least, and head and whole end at or before the index.
unfoldable pub is_inside : (s : Bytes) (at head whole : ℕ) → Bool
is_inside s at head whole = leb head whole && (leb head (length s - at) && leb whole (length s - at))

abbrev pub if_inside : (s : Bytes) (at head whole : ℕ) (text : Answer TextAt) → Answer TextAt
if_inside s at head whole text = refuse_if (not (is_inside s at head whole)) (fault 15 0) text

-- Rules 6.2, 6.3: the text is the rest behind the head.
abbrev pub rest_behind : (at head whole : ℕ) (encoding : Encoding) → TextAt
rest_behind at head whole encoding = record { place = at + head; len = whole - head; encoding = encoding }

-- Rules 6.2 to 6.5: the rest behind the head, of an even size if it is UTF-16.
unfoldable pub plain_text : (at first whole : ℕ) → Answer TextAt
plain_text at first whole =
    refuse_if (eqb first 0x90 && eqb (whole % 2) 1) (fault 15 0) (given (rest_behind at (head_size first) whole (encoding_in first)))

-- Rule 6.12: the text of a recording code, where its zero byte is found.
abbrev pub code_text : (place : ℕ) (len : Option ℕ) → Answer TextAt
code_text place (Some len) = given (record { place = place; len = len; encoding = Ascii })
code_text place None = refused (fault 15 0)

-- Rules 6.11, 6.12, or those of other strings.
unfoldable pub text_in : (table : Table) (slot : ℕ) (s : Bytes) (at first whole : ℕ) → Answer TextAt
text_in table slot s at first whole =
    cond (is_code table slot first whole (byte_at s (at + 4))) (code_text (at + 5) (code_length s at whole)) (plain_text at first whole)

-- Rules 6.1 to 6.3, 6.6, then those above.
abbrev pub text_by_kind : (table : Table) (slot : ℕ) (s : Bytes) (at first : ℕ) → Answer TextAt
text_by_kind table slot s at first =
    refuse_if (not (is_short first || is_long first)) (fault 15 0)
    (if_inside s at (head_size first) (whole_size s at first) (text_in table slot s at first (whole_size s at first)))

-- Rule 6.7, then those above: the string at an offset, in this slot of this table.
unfoldable pub read_text : (table : Table) (slot : ℕ) (s : Bytes) (at : ℕ) → Answer TextAt
read_text table slot s at = refuse_if (leb (length s) at) (fault 15 0) (text_by_kind table slot s at (byte_at s at))

-- the answer that a text of the code stands for, and 15 where there is none
abbrev pub text_of : Option Text → Answer TextAt
text_of (Some text) = given (record { place = text.place; len = text.len; encoding = text.encoding })
text_of None = refused (fault 15 0)
