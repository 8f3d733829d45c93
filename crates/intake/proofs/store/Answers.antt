-- `intake::store` meets its contract: the borrowed part comes back with the piece in it (proofs/BlockBytes), and the shifted 1 fits 64 bits.
use Prim.Native.Nat.{◌%◌}
use native.Mathlib.Omega.{arith}
use native.Mathlib.Nat.{one-mul}
use lib.Pow.{shl_exact}
use Rattle.bitmap.specs.Bit.{with_bit}
use Rattle.intake.specs.Deliver.{stored}
use Rattle.intake.proofs.BlockBytes.{put_block}
use Rattle.intake.proofs.store.Goals as goal

pub returns : goal.returns
unfolding stored with_bit
returns c =
    let shift = shl_exact {a = 1} 1 (c.args.block % 64) 64 (omega arith) (omega arith) in
    rw (c.copy.ensures, put_block c.args.image.now c.args.block c.args.piece.now, shift, one-mul)
