-- `directory::with_type` meets its contract: the shifted 1 fits 64 bits.
use native.Mathlib.Omega.{arith}
use native.Mathlib.Nat.{one-mul}
use lib.Pow.{shl_exact}
use borrow.Author.Tests.{lt-ltb, le-ltb}
use Rattle.directory.specs.Private.{with_type}
use Rattle.directory.proofs.with_type.Goals as goal

pub returns-then-t-lt64 : goal.returns-then-t-lt64
unfolding with_type
returns-then-t-lt64 c =
    let t = c.args.t in
    rw (lt-ltb t 64 c.if-t-lt64.true, shl_exact {a = 1} 1 t 64 (omega arith) (omega arith), one-mul)

pub returns-else-t-lt64 : goal.returns-else-t-lt64
unfolding with_type
returns-else-t-lt64 c = rw (le-ltb c.args.t 64 c.if-t-lt64.false)
