-- `bitmap::has_spare_bit` meets its contract: only one word has bits past the last block, and it decides (proofs/SpareBits).
use mathlib.Core.Path.{sym}
use Prim.Native.Nat.{◌/◌}
use Rattle.bitmap.proofs.SpareBits.{spare_none, spare_word}
use Rattle.bitmap.proofs.has_spare_bit.Goals as goal

pub returns-then-used-ne0 : goal.returns-then-used-ne0
returns-then-used-ne0 c =
    let count = c.block_count-blocks in
    rw c.word_at.ensures (spare_word _ _ count.ensures c.if-used-ne0.true (c.type_inv.map (count.result / 64)).fits)

pub returns-else-used-ne0 : goal.returns-else-used-ne0
returns-else-used-ne0 c = rw c.if-used-ne0.false (sym (spare_none _ _ c.block_count-blocks.ensures c.if-used-ne0.false))
