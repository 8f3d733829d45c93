-- `export::find_row` meets its contract: what the walk counted says which case of `settle_row` it is (proofs/RowAnswer, TablePlaces).
use Rattle.intake.specs.Memory.{memory_of}
use Rattle.export.proofs.TablePlaces.{table_row}
use Rattle.export.proofs.find_row.Goals as goal

pub returns-then-k-rows : goal.returns-then-k-rows
returns-then-k-rows c =
    let a = c.args in
    let m = memory_of a.file.memory in
    let counted = rw c.in_ok-walked.was at c.walk_table-walk.ensures.0 in
    table_row a.file.intake.len m a.table a.file.sound c.walk_table-walk.ensures.1 counted a.k (rw c.rows.ensures at c.if-k-rows.true)
    (rw c.pages.ensures at c.row_at.ensures)
