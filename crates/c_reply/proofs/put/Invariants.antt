-- `c_reply::put` meets its contract. The invariant: the values before i are written, those from i on are to be.
use mathlib.Core.Path.{◌≡◌}
use lib.ListN.{length, drop}
use lib.Seq.{sets}
use Rattle.lists.specs.Write.{written}
use Rattle.c_reply.proofs.put.Given as goal

abbrev pub invariant-loop-i : goal.invariant-loop-i
invariant-loop-i l = (length l.res ≡ length l.initial.res) × (written l.initial.res l.values ≡ sets l.res l.i (drop l.i l.values))
