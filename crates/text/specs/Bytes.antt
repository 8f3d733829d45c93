-- Rules 7.6, 7.15: the bytes of a string that are relevant, its head and its text, and all of it where it may be a recording code.
use Rattle.std.specs.Prelude.{Bool, false, ◌&&◌, ◌||◌, ℕ}
use Rattle.lists.specs.Alias.{Bytes}
use Rattle.number.specs.Number.{byte_at}
use Rattle.number.specs.Agree.{within}
use Rattle.refusal.specs.Answer.{Answer, given, refused}
use Rattle.table.specs.declared.Table.{Table}
use Rattle.text.specs.Code.{may_be_code}
use Rattle.text.specs.Text.{TextAt, head_size, whole_size, is_inside, read_text}

abbrev pub in_text : (found : Answer TextAt) (i : ℕ) → Bool
in_text (given text) i = within text.place text.len i
in_text (refused fault) i = false

-- Rule 7.15: a string that may be a recording code is relevant as a whole, if it ends at or before the index.
unfoldable pub code_byte : (table : Table) (slot : ℕ) (s : Bytes) (at first i : ℕ) → Bool
code_byte table slot s at first i =
    may_be_code table slot first && (is_inside s at (head_size first) (whole_size s at first) && within at (whole_size s at first) i)

-- is true exactly when byte i is a relevant byte of the string at an offset, in this slot of this table
unfoldable pub text_byte : (table : Table) (slot : ℕ) (s : Bytes) (at i : ℕ) → Bool
text_byte table slot s at i =
    within at (head_size (byte_at s at)) i || (in_text (read_text table slot s at) i || code_byte table slot s at (byte_at s at) i)
