-- `directory::keep` meets its contract. The loop's invariant: the array is `kept` of the pointers before i (proofs/PointersKept).
use mathlib.Core.Path.{◌≡◌}
use native.Mathlib.Omega.{arith}
use borrow.Author.Rules.{rules}
use Rattle.directory.specs.Directory.{no_pointer}
use Rattle.directory.proofs.PointersKept.{kept_none, kept_more}
use Rattle.directory.proofs.keep.Goals as goal

pub loop-i-init : goal.loop-i-init
loop-i-init c = let blank : c.default-all.result ≡ no_pointer = search rules in (omega arith, rw blank (kept_none _))

pub loop-i-preserved : goal.loop-i-preserved
loop-i-preserved c =
    let at = c.loop-i in
    (omega arith, rw (at.invariant.1, c.pointer_at.ensures) (kept_more _ at.i (omega arith)))
