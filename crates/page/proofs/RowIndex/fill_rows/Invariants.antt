-- `page::RowIndex::fill_rows` meets its contract, by the loop's invariant `Filling` (proofs/FillLoop).
use Rattle.page.proofs.FillLoop.{Filling}
use Rattle.page.proofs.RowIndex.fill_rows.Given as goal

abbrev pub invariant-loop-entry : goal.invariant-loop-entry
invariant-loop-entry l = Filling l.start l.self.page l.self.entries l.initial.list l.entry l.at l.list
