-- `table_walk::walk_table` meets its contract: block 0's bit and the header choose the case (proofs/WalkStart).
use mathlib.Core.Path.{sym, ◌∙◌}
use Rattle.intake.specs.Memory.{memory_of}
use Rattle.table_walk.proofs.WalkStart.{start_missing, start_broken, start_ready}
use Rattle.table_walk.proofs.walk_table.Goals as goal

pub returns-then-not-has_bit : goal.returns-then-not-has_bit
returns-then-not-has_bit c =
    let a = c.args in
    let missing = sym c.has_bit.ensures ∙ c.if-not-has_bit.true in
    start_missing a.len (memory_of a.memory) a.table missing c.none.ensures

pub returns-in-Some : goal.returns-in-Some
returns-in-Some c =
    let a = c.args in
    let held = sym c.has_bit.ensures ∙ c.if-not-has_bit.false in
    let header = rw c.first_block.ensures at c.read.ensures in
    start_ready a.len (memory_of a.memory) a.table held header c.in-Some.is c.walk.ensures

pub returns-in-None : goal.returns-in-None
returns-in-None c =
    let a = c.args in
    let held = sym c.has_bit.ensures ∙ c.if-not-has_bit.false in
    let header = rw c.first_block.ensures at c.read.ensures in
    start_broken a.len (memory_of a.memory) a.table held header c.in-None.is c.none-in-None.ensures
