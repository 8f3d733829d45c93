-- `intake::copy` meets its contract. The invariant: the first i bytes are copied, the others as before (lists: EqualParts).
use mathlib.Core.Path.{◌≡◌}
use mathlib.Core.List.{◌++◌}
use Prim.Native.Nat.{◌≤◌}
use lib.ListN.{length, drop, take}
use Rattle.intake.proofs.copy.Given as goal

abbrev pub invariant-loop-i : goal.invariant-loop-i
invariant-loop-i l = (length l.initial.into ≡ length l.from) × (length l.into ≡ length l.initial.into) × (l.i ≤ length l.from) × (l.into ≡ take l.i l.from ++ drop l.i l.initial.into)
