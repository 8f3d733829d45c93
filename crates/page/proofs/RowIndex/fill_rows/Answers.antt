-- `page::RowIndex::fill_rows` meets its contract, by the loop's invariant `Filling` (proofs/FillLoop).
use mathlib.Core.Path.{sym, ◌∙◌}
use Rattle.page.proofs.EntriesInside.{held}
use Rattle.page.proofs.FillLoop.{begin, absent, next, end}
use Rattle.page.proofs.RowIndex.fill_rows.Goals as goal
use Rattle.page.proofs.RowIndex.fill_rows.Goals.{then-is_present, else-is_present}

pub loop-entry-init : goal.loop-entry-init
loop-entry-init c = begin _ _ _ _

pub loop-entry-preserved : goal.loop-entry-preserved
loop-entry-preserved c =
    let inv = c.loop-entry.invariant in
    let told = c.is_present.ensures in
    elim c.if-is_present.branch [
      | then-is_present w ↦ rw (w.list-is, w.at-is) (next inv (rw (held c.self.view_is) at c.loop-entry-test.true) (sym told ∙ w.if-is_present.true) w.row_start.ensures.0 w.put.ensures)
      | else-is_present w ↦ rw (w.list-is, w.at-is) (absent inv (rw (held c.self.view_is) at c.loop-entry-test.true) (sym told ∙ w.if-is_present.false))
    ]

pub shape_of-list : goal.shape_of-list
shape_of-list c = c.loop-entry.invariant.size

pub returns : goal.returns
returns c = end c.loop-entry.invariant (rw (held c.self.view_is) at c.loop-entry-test.false)
