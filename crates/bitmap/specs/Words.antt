-- Rules 1.7 and 1.9: how many blocks a file of a given length has, and how many words of its map are in use.
use Rattle.std.specs.Prelude.{ℕ, ◌+◌, ◌/◌}
use Rattle.format.specs.Size.{block_size}

-- Rule 1.7: B
abbrev pub block_count : ℕ → ℕ
block_count len = len / block_size

-- Rule 1.9: a bit for each block, so B/64 words, rounded up
abbrev pub word_count : ℕ → ℕ
word_count len = (block_count len + 63) / 64
