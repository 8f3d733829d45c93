-- `export::rows_of` meets its contract: what the walk counted says which case of `settle_rows` it is (proofs/RowsAnswer, TablePlaces).
use Rattle.intake.specs.Memory.{memory_of}
use Rattle.export.proofs.TablePlaces.{table_rows}
use Rattle.export.proofs.rows_of.Goals as goal

pub returns : goal.returns
returns c =
    let a = c.args in
    let m = memory_of a.file.memory in
    let counted = rw c.in_ok-walked.was at c.walk_table-walk.ensures.0 in
    table_rows a.file.intake.len m a.table a.file.sound c.walk_table-walk.ensures.1 counted a.list.now (rw c.rows-rows.ensures at c.if-list-rows.false)
    (rw c.pages.ensures at c.fill.ensures)
