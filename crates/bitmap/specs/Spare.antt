-- Rule 2.4: a bit of a word in use that belongs to no block.
use Rattle.std.specs.Prelude.{Bool, ℕ, ◌-◌, ◌*◌}
use Rattle.lists.specs.Alias.{Words}
use Rattle.lists.specs.Any.{any_from}
use Rattle.bitmap.specs.Words.{block_count, word_count}
use Rattle.bitmap.specs.Bit.{bit}

-- whether such a bit is one: they are the bits of the words in use from B on
unfoldable pub spare_bit : ℕ → Words → Bool
spare_bit len map = any_from (bit map) (64 * word_count len - block_count len) (block_count len)
