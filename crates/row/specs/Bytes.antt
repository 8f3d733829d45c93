-- Rules 7.6, 7.7: the relevant bytes of a present row. A row that fits has its fixed part and its strings; of a row that does not fit,
-- and of an artist row of unknown subtype, only an artist's subtype is relevant, where the row has `0a` bytes.
use Rattle.std.specs.Prelude.{Bool, false, cond, ◌&&◌, ◌||◌, ℕ, length, ltb, leb, eqb, Option, Some, None}
use Rattle.lists.specs.Alias.{Bytes}
use Rattle.lists.specs.Any.{any_from}
use Rattle.number.specs.Agree.{within}
use Rattle.text.specs.Bytes.{text_byte}
use Rattle.table.specs.declared.Table.{Table}
use Rattle.table.specs.Table.{table_number}
use Rattle.row.specs.declared.Slots.{Slots}
use Rattle.row.specs.declared.Layout.{Layout}
use Rattle.row.specs.Layout.{row_layout, slots_in, slot_start}

-- is true exactly when byte i belongs to a string of the row
unfoldable pub slot_byte : (table : Table) (row : Bytes) (slots : Slots) (i : ℕ) → Bool
slot_byte table row slots i = any_from (λ (slot : ℕ). text_byte table slot row (slot_start slots row slot) i) (slots_in slots) 0

-- Rule 7.6.
abbrev pub layout_byte : (table : Table) (row : Bytes) (layout : Option Layout) (i : ℕ) → Bool
layout_byte table row (Some layout) i = cond (ltb (length row) layout.fixed) false (within 0 layout.fixed i || slot_byte table row layout.slots i)
layout_byte table row None i = false

-- Rule 7.7: the subtype of an artist row (table 2).
unfoldable pub subtype_byte : (table : Table) (row : Bytes) (i : ℕ) → Bool
subtype_byte table row i = (eqb (table_number table) 2 && leb 0x0a (length row)) && within 0x00 2 i

unfoldable pub row_byte : (table : Table) (row : Bytes) (i : ℕ) → Bool
row_byte table row i = subtype_byte table row i || layout_byte table row (row_layout table row) i
