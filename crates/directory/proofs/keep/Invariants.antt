-- `directory::keep` meets its contract. The loop's invariant: the array is `kept` of the pointers before i (proofs/PointersKept).
use mathlib.Core.Path.{◌≡◌}
use Prim.Native.Nat.{◌≤◌}
use Rattle.directory.specs.Directory.{kept}
use Rattle.directory.proofs.keep.Given as goal

abbrev pub invariant-loop-i : goal.invariant-loop-i
invariant-loop-i l = (l.i ≤ l.n) × (l.all ≡ kept l.block l.i)
