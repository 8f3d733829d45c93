-- Rules 8.8 and 8.13: the memory that the received blocks alone give, and that of a whole file.
use Rattle.std.specs.Prelude.{◌≡◌, Bool, true, cond, [], ◌++◌, ℕ, zero, suc, ◌<◌, length, replicate}
use Rattle.std.proofs.Math.Option.{Option, none, some}
use Rattle.lists.specs.Alias.{Bytes, Words}
use Rattle.format.specs.Size.{block_size}
use Rattle.bitmap.specs.Words.{block_count, word_count}
use Rattle.bitmap.specs.Bit.{with_bit}
use Rattle.intake.specs.Memory.{Memory, memory, block_at}
use Rattle.run.specs.Received.{Received, has}

-- a block's bytes, zeros where there is none
abbrev pub or_zeros : Option Bytes → Bytes
or_zeros none = replicate block_size 0
or_zeros (some piece) = piece

-- the blocks below n in order
unfoldable pub in_order : ℕ → Received → Bytes
in_order zero r = []
in_order (suc n) r = in_order n r ++ or_zeros (r n)

-- a map of so many words in which a block below n has its bit exactly when it is held, and no other bit is set
unfoldable pub marked : (words : ℕ) (held : ℕ → Bool) (n : ℕ) → Words
marked words held zero = replicate words 0
marked words held (suc n) = cond (held n) (with_bit (marked words held n) n) (marked words held n)

-- Rule 8.8: image and map from the received blocks, and from nothing else
unfoldable pub received_file : ℕ → Received → Memory
received_file len r = memory (in_order (block_count len) r) (marked (word_count len) (λ (b : ℕ). has (r b)) (block_count len))

-- Rule 8.13: a file of len bytes whose blocks, in order, are the received ones
pub record IsWhole (len : ℕ) (r : Received) (file : Bytes) : Type 0 where
  pub long : length file ≡ len
  pub blocks : (b : ℕ) → b < block_count len → r b ≡ some (block_at file b)

-- a file all of whose blocks are held
unfoldable pub whole_file : ℕ → Bytes → Memory
whole_file len file = memory file (marked (word_count len) (λ (b : ℕ). true) (block_count len))
