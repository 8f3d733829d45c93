-- `intake::next_missing` meets its contract, by the invariant `Searching` (proofs/MissingLoop).
use native.Mathlib.Omega.{arith}
use Rattle.intake.specs.Missing.{next_missing}
use Rattle.intake.proofs.MissingLoop.{search_begin, search_here, search_next, search_end}
use Rattle.intake.proofs.next_missing.Goals as goal

pub loop-block-init : goal.loop-block-init
loop-block-init c = search_begin _ _ _

pub returns-then-run-eq0 : goal.returns-then-run-eq0
unfolding next_missing
returns-then-run-eq0 c = rw (← c.block_count-blocks.ensures) (search_here c.loop-block.invariant (omega (arith, c.loop-block-test.true)) c.held_run-run.ensures c.if-run-eq0.true)

pub overflow_add-block : goal.overflow_add-block
overflow_add-block c = omega (arith, c.held_run-run.ensures.few, c.block_count-blocks.ensures)

pub loop-block-preserved : goal.loop-block-preserved
loop-block-preserved c = search_next c.loop-block.invariant c.held_run-run.ensures

pub returns : goal.returns
unfolding next_missing
returns c = rw (← c.block_count-blocks.ensures) (search_end c.loop-block.invariant c.loop-block-test.false)
