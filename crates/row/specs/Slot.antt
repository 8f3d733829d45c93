-- Rules 5.22, 5.26, 6.11: the string of a slot of a table's row. Its place counts from the row's start.
use Rattle.std.specs.Prelude.{ℕ, leb, Option, Some, None}
use Rattle.lists.specs.Alias.{Bytes}
use Rattle.refusal.specs.Fault.{fault}
use Rattle.refusal.specs.Answer.{Answer, refused, refuse_if}
use Rattle.text.specs.Text.{TextAt, read_text}
use Rattle.table.specs.declared.Table.{Table}
use Rattle.row.specs.declared.Slots.{Slots}
use Rattle.row.specs.declared.Layout.{Layout}
use Rattle.row.specs.Layout.{row_layout, slots_in, slot_start}

-- Rule 5.26: a slot that the row does not have holds no string.
abbrev pub text_in_slot : (table : Table) (row : Bytes) (slots : Slots) (slot : ℕ) → Answer TextAt
text_in_slot table row slots slot = refuse_if (leb (slots_in slots) slot) (fault 15 0) (read_text table slot row (slot_start slots row slot))

abbrev pub layout_text : (table : Table) (row : Bytes) (slot : ℕ) (layout : Option Layout) → Answer TextAt
layout_text table row slot (Some layout) = text_in_slot table row layout.slots slot
layout_text table row slot None = refused (fault 15 0)

unfoldable pub slot_text : (table : Table) (row : Bytes) (slot : ℕ) → Answer TextAt
slot_text table row slot = layout_text table row slot (row_layout table row)
