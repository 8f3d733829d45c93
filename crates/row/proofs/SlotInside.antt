-- Rule 6.6: the text of a slot lies inside the row's own part; a string that is refused is 15.
use mathlib.Core.Path.{◌≡◌, refl, sym, subst}
use Prim.Native.Nat.{ℕ, ◌+◌, ◌≤◌}
use lib.ListN.{length}
use lib.Dec.{leb}
use Rattle.lists.specs.Alias.{Bytes}
use Rattle.lists.proofs.Choice.{cond_holds}
use Rattle.refusal.specs.Fault.{fault}
use Rattle.refusal.specs.Answer.{Answer, given, refused}
use Rattle.text.specs.Text.{TextAt, read_text}
use Rattle.text.proofs.TextInside.{Inside, read_inside}
use Rattle.table.specs.declared.Table.{Table}
use Rattle.row.specs.declared.Slots.{Slots}
use Rattle.row.specs.declared.Layout.{Layout}
use Rattle.std.specs.Prelude.{Option, Some, None}
use Rattle.row.specs.Layout.{row_layout, slots_in, slot_start}
use Rattle.row.specs.Slot.{text_in_slot, layout_text, slot_text}

abbrev pub Within : (row : Bytes) (found : Answer TextAt) → Type 0
Within row (given text) = text.place + text.len ≤ length row
Within row (refused f) = f ≡ fault 15 0

weaken : (row : Bytes) (at : ℕ) (found : Answer TextAt) → Inside row at found → Within row found
weaken row at (given text) i = i.1
weaken row at (refused f) i = i

pub text_within : (table : Table) (row : Bytes) (slots : Slots) (slot : ℕ) → Within row (text_in_slot table row slots slot)
text_within table row slots slot =
    let at = slot_start slots row slot in
    cond_holds (Within row) (leb (slots_in slots) slot) (λ _. refl) (λ _. weaken row at (read_text table slot row at) (read_inside table slot row at))

layout_within : (table : Table) (row : Bytes) (slot : ℕ) (l : Option Layout) → Within row (layout_text table row slot l)
layout_within table row slot (Some l) = text_within table row l.slots slot
layout_within table row slot None = refl

pub slot_inside : (table : Table) (row : Bytes) (slot : ℕ) {text : TextAt} → given text ≡ slot_text table row slot → text.place + text.len ≤ length row
unfolding slot_text
slot_inside table row slot e = subst (Within row) (sym e) (layout_within table row slot (row_layout table row))
