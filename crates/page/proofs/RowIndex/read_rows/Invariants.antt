-- `page::RowIndex::read_rows` meets its contract, by the loop's invariant `Reading` (proofs/ReadLoop).
use Rattle.page.proofs.ReadLoop.{Reading}
use Rattle.page.proofs.RowIndex.read_rows.Given as goal

abbrev pub invariant-loop-i : goal.invariant-loop-i
invariant-loop-i l = Reading l.number l.table l.self.page l.before l.self.entries l.i l.found
