-- `intake::next_missing` meets its contract, by the invariant `Searching` (proofs/MissingLoop).
use Prim.Native.Nat.{◌-◌}
use Rattle.intake.proofs.MissingLoop.{Searching}
use Rattle.intake.proofs.next_missing.Given as goal

abbrev pub invariant-loop-block : goal.invariant-loop-block
invariant-loop-block l = Searching l.map l.from l.blocks l.block

abbrev pub decreases-loop-block : goal.decreases-loop-block
decreases-loop-block l = l.blocks - l.block
