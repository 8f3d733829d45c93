-- `page::RowIndex::group_ones` meets its contract: the shifted 1 fits 16 bits, and flags have no more.
use native.Mathlib.Omega.{arith}
use Prim.Native.Nat.{◌^◌, ◌-◌}
use native.Mathlib.Nat.{one-mul, min-eq_left, min-eq_right, mod-eq_of_lt}
use lib.Pow.{shl_exact}
use Rattle.page.specs.Private.{group_ones}
use Rattle.page.proofs.EntriesInside.{held}
use Rattle.page.proofs.RowIndex.group_ones.Goals as goal

pub returns-then-left-lt16 : goal.returns-then-left-lt16
unfolding group_ones
returns-then-left-lt16 c =
    let same = held c.self.view_is in
    let left = c.args.self.now.entries - c.args.i in
    rw (same, shl_exact {a = 1} 1 left 16 (omega arith) (omega arith), one-mul (2 ^ left), min-eq_left {n = left} {m = 16} (omega arith), c.flags_of-flags.ensures)

pub returns : goal.returns
unfolding group_ones
returns c =
    let same = held c.self.view_is in
    let flags = c.flags_of-flags in
    rw (min-eq_right {n = 16} {m = c.args.self.now.entries - c.args.i} (omega arith), ← flags.ensures, mod-eq_of_lt {n = flags.result} {m = 65536} (omega arith))
