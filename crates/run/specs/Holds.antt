-- Rules 8.6 and 8.7: what holds of image and map at the end of any run, given the received blocks and the memory before the opening.
use Rattle.std.specs.Prelude.{◌≡◌, false, ℕ, ◌*◌, ◌<◌, ◌≤◌, ◌^◌, length, drop}
use Rattle.std.proofs.Math.Option.{none, some}
use Rattle.lists.specs.Alias.{Bytes}
use Rattle.bitmap.specs.Words.{block_count, word_count}
use Rattle.bitmap.specs.Bit.{bit, word_at}
use Rattle.bitmap.specs.Count.{held_count}
use Rattle.intake.specs.Memory.{Memory, block_at}
use Rattle.run.specs.Received.{Received, has, received_below}

pub record Holds (len : ℕ) (before : Memory) (r : Received) (m : Memory) : Type 0 where
  -- the bit of each block
  pub bits : (b : ℕ) → b < block_count len → bit m.map b ≡ has (r b)
  -- the other bits of words in use
  pub spare : (b : ℕ) → block_count len ≤ b → b < 64 * word_count len → bit m.map b ≡ false
  -- words have 64 bits
  pub words : (i : ℕ) → i < word_count len → word_at m.map i < 2 ^ 64
  -- the image has the received blocks
  pub blocks : (b : ℕ) (piece : Bytes) → b < block_count len → r b ≡ some piece → block_at m.image b ≡ piece
  -- everything else is as it was before the opening
  pub other_blocks : (b : ℕ) → b < block_count len → r b ≡ none → block_at m.image b ≡ block_at before.image b
  pub bytes_past : drop len m.image ≡ drop len before.image
  pub words_past : drop (word_count len) m.map ≡ drop (word_count len) before.map
  pub image_length : length m.image ≡ length before.image
  pub map_length : length m.map ≡ length before.map
  -- Rule 8.7
  pub count : held_count len m.map ≡ received_below (block_count len) r
