-- `format::Page::new` meets its contract: a product of two numbers below 2^32, and one of them more, fit 64 bits.
use Prim.Native.Nat.{◌≤◌}
use native.Mathlib.Omega.{arith}
use native.Mathlib.Nat.{mul-le-mul_right}
use Rattle.format.proofs.Page.new.Goals as goal

pub overflow_mul-start : goal.overflow_mul-start
overflow_mul-start c =
    let h : c.args.number ≤ 0xffff_ffff = omega arith in
    omega (arith, mul-le-mul_right c.args.size h)

pub overflow_add-result : goal.overflow_add-result
overflow_add-result c =
    let h : c.args.number ≤ 0xffff_ffff = omega arith in
    omega (arith, mul-le-mul_right c.args.size h)
