-- `intake::copy` meets its contract. The invariant: the first i bytes are copied, the others as before (lists: EqualParts).
use mathlib.Core.Path.{◌≡◌, refl}
use mathlib.Core.List.{append-nil}
use Prim.Native.Nat.{◌≤◌, ◌<◌}
use native.Mathlib.Omega.{arith}
use lib.ListN.{length, length-set, drop_of_length-le}
use lib.Seq.{take-length}
use Rattle.lists.proofs.EqualParts.{copy_more}
use Rattle.intake.proofs.copy.Goals as goal

pub loop-i-init : goal.loop-i-init
loop-i-init c = (c.requires, refl, omega arith, refl)

pub loop-i-preserved : goal.loop-i-preserved
loop-i-preserved c =
    let h : c.loop-i.i < length c.args.into.now = omega arith in (
      c.loop-i.invariant.0,
      simp length-set c.loop-i.invariant.1,
      omega arith,
      rw c.loop-i.invariant.3 (copy_more 0 c.args.into.now c.args.from.now c.loop-i.i h c.loop-i-test.true),
    )

pub shape_of-into : goal.shape_of-into
shape_of-into c = c.loop-i.invariant.1

pub returns : goal.returns
returns c =
    let from = c.args.from.now in
    let into = c.args.into.now in
    let all : c.loop-i.i ≡ length from = omega arith in
    let past : length into ≤ length from = omega arith in
    rw (c.loop-i.invariant.3, all, drop_of_length-le into past, append-nil) (take-length from)
