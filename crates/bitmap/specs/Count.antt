-- Rule 1.17: the held count.
use Rattle.std.specs.Prelude.{[], ◌∷◌, ℕ, ◌+◌, take}
use Rattle.std.specs.Int.Count.{ones}
use Rattle.lists.specs.Alias.{Words}
use Rattle.bitmap.specs.Words.{word_count}

-- the ones of each word, summed
unfoldable pub ones_in : Words → ℕ
ones_in [] = 0
ones_in (word ∷ words) = ones word + ones_in words

-- those of the words in use
unfoldable pub held_count : ℕ → Words → ℕ
held_count len map = ones_in (take (word_count len) map)
