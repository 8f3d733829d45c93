-- `page::RowIndex::find_row` meets its contract, by the loop's invariant `Finding` (proofs/RowLoop).
use Rattle.page.proofs.RowLoop.{Finding}
use Rattle.page.proofs.RowIndex.find_row.Given as goal

abbrev pub invariant-loop-i : goal.invariant-loop-i
invariant-loop-i l = Finding l.number l.self.page l.self.entries l.k l.i l.found
