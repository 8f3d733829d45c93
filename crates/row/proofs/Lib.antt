-- `row_layout` finds the layout of a row; `check_row` tests its fixed part and goes through its slots (TextsLoop).
-- LayoutSound: the offsets of strings stand in the fixed part, and a layout has its table's slots.
-- GoodRow: what a good row has. RowFaults: the numbers that refuse one. SlotInside: where a slot's text lies.
-- RowAgree: layout, check, record and texts depend on the relevant bytes alone.
pub mod LayoutSound
pub mod TextsLoop
pub mod GoodRow
pub mod SlotInside
pub mod RowFaults
pub mod RowAgree
