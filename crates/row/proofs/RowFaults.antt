-- Rules 5.8, 5.9: a row that is refused is refused by 14 or 15.
use Prim.Native.Nat.{ℕ, zero, suc, ◌+◌, ◌≤◌}
use native.Mathlib.Omega.{arith}
use lib.ListN.{length}
use lib.Dec.{ltb}
use Rattle.lists.specs.Alias.{Bytes}
use Rattle.lists.proofs.Choice.{cond_holds}
use Rattle.refusal.specs.Answer.{Answer, given, refused, and_then}
use Rattle.text.specs.Text.{TextAt}
use Rattle.table.specs.declared.Table.{Table}
use Rattle.row.specs.declared.Slots.{Slots}
use Rattle.row.specs.declared.Layout.{Layout}
use Rattle.std.specs.Prelude.{Option, Some, None}
use Rattle.row.specs.Layout.{row_layout, slots_in}
use Rattle.row.specs.Slot.{text_in_slot}
use Rattle.row.specs.Check.{check_texts, check_layout, check_row}
use Rattle.row.proofs.SlotInside.{Within, text_within}

abbrev pub RowFaults : Answer (Unit {0}) → Type 0
RowFaults (given u) = Unit {0}
RowFaults (refused f) = (14 ≤ f.number) × (f.number ≤ 15)

text_then : (row : Bytes) (found : Answer TextAt) (rest : Answer (Unit {0})) → Within row found → RowFaults rest → RowFaults (and_then found (λ _. rest))
text_then row (given text) rest i r = r
text_then row (refused f) rest i r = rw i (omega arith)

texts_faults : (table : Table) (row : Bytes) (slots : Slots) (left slot : ℕ) → RowFaults (check_texts table row slots left slot)
unfolding check_texts
texts_faults table row slots zero slot = tt
texts_faults table row slots (suc left) slot =
    text_then row (text_in_slot table row slots slot) (check_texts table row slots left (slot + 1)) (text_within table row slots slot)
    (texts_faults table row slots left (slot + 1))

layout_faults : (table : Table) (row : Bytes) (l : Option Layout) → RowFaults (check_layout table row l)
layout_faults table row (Some l) =
    cond_holds RowFaults (ltb (length row) l.fixed) (λ _. omega arith) (λ _. texts_faults table row l.slots (slots_in l.slots) 0)
layout_faults table row None = omega arith

pub row_faults : (table : Table) (row : Bytes) → RowFaults (check_row table row)
unfolding check_row
row_faults table row = layout_faults table row (row_layout table row)
