-- `export::text_at` meets its contract: the slot's text chooses the case of `text_found`, and its place lies inside the row's part (row, `slot_inside`).
use native.Mathlib.Omega.{arith}
use Rattle.row.proofs.SlotInside.{slot_inside}
use Rattle.chain.proofs.PagePart.{start_at}
use Rattle.export.proofs.RowPart.{part_room, text_room}
use Rattle.export.proofs.text_at.Goals as goal

pub overflow_add-result-in-Some : goal.overflow_add-result-in-Some
overflow_add-result-in-Some c =
    let a = c.args in
    let at = a.at in
    let begin = start_at at.size at.row.page c.new.ensures in
    let inside = slot_inside a.table c.row_part.result.now a.slot (rw c.in-Some.is at c.slot_text.ensures) in
    let short = rw (← c.row_part.ensures) at (part_room at.size a.image.now at.row) in
    let place = c.in-Some.text.place in
    omega (arith, begin, text_room at.row.page at.size at.row.start place (omega arith) (omega arith) (omega arith) (omega (arith, inside, short)))
