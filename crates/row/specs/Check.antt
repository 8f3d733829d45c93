-- Rules 5.8, 5.9, 5.12: the check of a row, which is its own part of the page (specs/Layout).
-- The page and the entry, which 14 and 15 carry, are not known here; reading a page sets them (page/Read `on_row`).
use Rattle.std.specs.Prelude.{ℕ, zero, suc, ◌+◌, length, ltb, Option, Some, None, Result, Ok, Err}
use Rattle.lists.specs.Alias.{Bytes}
use Rattle.refusal.specs.Fault.{fault}
use Rattle.refusal.specs.Answer.{Answer, given, refused, refuse_if, and_then}
use Rattle.table.specs.declared.Table.{Table}
use Rattle.row.specs.declared.Slots.{Slots}
use Rattle.row.specs.declared.Layout.{Layout}
use Rattle.row.specs.declared.RowError.{RowError}
use Rattle.row.specs.declared.RowError.TheVariants as error
use Rattle.row.specs.Layout.{row_layout, slots_in}
use Rattle.row.specs.Slot.{text_in_slot}

-- Rule 5.9: the strings of so many slots, one after the other from this slot on.
unfoldable pub check_texts : (table : Table) (row : Bytes) (slots : Slots) (left slot : ℕ) → Answer (Unit {0})
check_texts table row slots zero slot = given tt
check_texts table row slots (suc left) slot = and_then (text_in_slot table row slots slot) (λ _. check_texts table row slots left (slot + 1))

-- Rule 5.8, then 5.9. An artist row of no known layout is 14 (rule 5.12).
abbrev pub check_layout : (table : Table) (row : Bytes) (layout : Option Layout) → Answer (Unit {0})
check_layout table row (Some layout) = refuse_if (ltb (length row) layout.fixed) (fault 14 0) (check_texts table row layout.slots (slots_in layout.slots) 0)
check_layout table row None = refused (fault 14 0)

unfoldable pub check_row : (table : Table) (row : Bytes) → Answer (Unit {0})
check_row table row = check_layout table row (row_layout table row)

-- the answer that a result of the code stands for
abbrev pub check_of : Result (Unit {0}) RowError → Answer (Unit {0})
check_of (Ok u) = given tt
check_of (Err error.Row) = refused (fault 14 0)
check_of (Err error.Text) = refused (fault 15 0)
