-- Rules 6.11 to 6.13: recording codes, strings of kind `90` in slot 0 of a track.
use Rattle.std.specs.Prelude.{Bool, ◌&&◌, ℕ, ◌+◌, leb, eqb, Option}
use Rattle.lists.specs.Alias.{Bytes}
use Rattle.lists.specs.Subslice.{subslice}
use Rattle.table.specs.declared.Table.{Table}
use Rattle.table.specs.Table.{holds_codes}
use Rattle.text.specs.Zero.{first_zero}

-- Rule 6.11: kind `90`, in the slot that may hold codes.
abbrev pub may_be_code : (table : Table) (slot first : ℕ) → Bool
may_be_code table slot first = eqb first 0x90 && holds_codes table slot

-- Rule 6.11: it is a code if it has 5 bytes or more and the byte behind the four of its head is `03`.
unfoldable pub is_code : (table : Table) (slot first whole behind : ℕ) → Bool
is_code table slot first whole behind = may_be_code table slot first && (leb 5 whole && eqb behind 0x03)

-- Rule 6.12: bytes from the one behind `03` to the first zero byte, which is searched up to the string's end.
unfoldable pub code_length : (s : Bytes) (at whole : ℕ) → Option ℕ
code_length s at whole = first_zero (subslice s (at + 5) (at + whole)) 0
