-- Rule 1.8: a block's bit in the map.
use Rattle.std.specs.Prelude.{Bool, ℕ, ◌/◌, ◌%◌, ◌^◌, get_or, set, eqb}
use Rattle.std.specs.Int.Bits.{bit_or}
use Rattle.lists.specs.Alias.{Words}

-- binary digit i of a word, the lowest at 0
abbrev pub digit : ℕ → ℕ → ℕ
digit word i = word / 2 ^ i % 2

-- word i of a map, 0 past its end
abbrev pub word_at : Words → ℕ → ℕ
word_at map i = get_or map i 0

-- whether a block's bit is one
unfoldable pub bit : Words → ℕ → Bool
bit map block = eqb (digit (word_at map (block / 64)) (block % 64)) 1

-- the map with a block's bit set
unfoldable pub with_bit : Words → ℕ → Words
with_bit map block = set map (block / 64) (bit_or (word_at map (block / 64)) (2 ^ (block % 64)))
