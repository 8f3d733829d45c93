-- `page::RowIndex::present_count` meets its contract, by the loop's invariant `Counting` (proofs/PresentCount).
use mathlib.Core.Path.{◌≡◌}
use native.Mathlib.Omega.{arith}
use Prim.Native.Nat.{◌+◌, ◌*◌, ◌<◌}
use Rattle.page.proofs.EntriesInside.{held}
use Rattle.page.proofs.PresentCount.{next, room, end}
use Rattle.page.proofs.RowIndex.present_count.Goals as goal

pub overflow_add-count : goal.overflow_add-count
overflow_add-count c =
    let same = held c.self.view_is in
    let h : 16 * c.loop-group.group < c.args.self.now.entries = omega arith in
    omega (arith, room c.loop-group.invariant h c.group_ones-count.ensures)

pub loop-group-preserved : goal.loop-group-preserved
loop-group-preserved c =
    let same = held c.self.view_is in
    let later : 16 * (c.loop-group.group + 1) ≡ 16 * c.loop-group.group + 16 = omega arith in
    rw later (next c.loop-group.invariant (omega arith) c.group_ones-count.ensures)

pub returns : goal.returns
returns c =
    let same = held c.self.view_is in
    end c.loop-group.invariant (omega arith)
