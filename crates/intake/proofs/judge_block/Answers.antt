-- `intake::judge_block` meets its contract: each verdict is that of its case (proofs/Verdict).
use mathlib.Core.Path.{sym, ◌∙◌}
use Prim.Native.Nat.{◌<◌}
use native.Mathlib.Omega.{arith}
use Rattle.bitmap.specs.Words.{block_count}
use Rattle.intake.specs.Memory.{memory_of}
use Rattle.intake.proofs.Verdict.{block_inside, number_refused, size_refused, bytes_refused, is_same, is_new}
use Rattle.intake.proofs.EqualBytes.{equal_is}
use Rattle.intake.proofs.BlockBytes.{part_equal}
use Rattle.intake.proofs.judge_block.Goals as goal

pub returns-then-block_count-block : goal.returns-then-block_count-block
returns-then-block_count-block c = sym (number_refused _ _ _ _ c.args.file.sound (omega arith))

pub returns-then-piece-ne-SIZE : goal.returns-then-piece-ne-SIZE
returns-then-piece-ne-SIZE c = sym (size_refused _ _ _ _ c.args.file.sound (omega arith) c.if-piece-ne-SIZE.true)

pub returns-then-not-has_bit : goal.returns-then-not-has_bit
returns-then-not-has_bit c = sym (is_new _ _ _ _ c.args.file.sound (omega arith) c.if-piece-ne-SIZE.false (sym c.has_bit.ensures ∙ c.if-not-has_bit.true))

pub slice_bounds-eq-end : goal.slice_bounds-eq-end
slice_bounds-eq-end c =
    let inside : c.args.block < block_count c.args.file.intake.len = omega arith in
    omega (arith, block_inside c.args.file.intake.len (memory_of c.args.file.memory) c.args.block c.args.file.sound inside)

pub returns-then-eq : goal.returns-then-eq
returns-then-eq c =
    let held = sym c.has_bit.ensures ∙ c.if-not-has_bit.false in
    let e = part_equal _ c.args.block _ (c.eq.ensures ∙ equal_is _ _) c.if-eq.true in
    sym (is_same _ _ _ _ c.args.file.sound (omega arith) c.if-piece-ne-SIZE.false held e)

pub returns-else-eq : goal.returns-else-eq
returns-else-eq c =
    let held = sym c.has_bit.ensures ∙ c.if-not-has_bit.false in
    let e = part_equal _ c.args.block _ (c.eq.ensures ∙ equal_is _ _) c.if-eq.false in
    sym (bytes_refused _ _ _ _ c.args.file.sound (omega arith) c.if-piece-ne-SIZE.false held e)
