-- `page::RowIndex::present_count` meets its contract, by the loop's invariant `Counting` (proofs/PresentCount).
use Prim.Native.Nat.{◌*◌}
use Rattle.page.proofs.PresentCount.{Counting}
use Rattle.page.proofs.RowIndex.present_count.Given as goal

abbrev pub invariant-loop-group : goal.invariant-loop-group
invariant-loop-group l = Counting l.self.page l.self.entries (16 * l.group) l.count
