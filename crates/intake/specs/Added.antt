-- Rule 1.13: what New means for image and map.
use Rattle.std.specs.Prelude.{◌≡◌, true, ℕ, ◌+◌, ◌/◌, length}
use Rattle.lists.specs.Alias.{Bytes}
use Rattle.format.specs.Size.{block_size}
use Rattle.number.specs.Number.{byte_at}
use Rattle.bitmap.specs.Bit.{bit}
use Rattle.bitmap.specs.Count.{held_count}
use Rattle.intake.specs.Memory.{Memory, block_at}

pub record Added (len : ℕ) (m : Memory) (block : ℕ) (piece : Bytes) (after : Memory) : Type 0 where
  pub bit_set : bit after.map block ≡ true
  pub other_bits : (b : ℕ) → (b ≡ block → ⊥) → bit after.map b ≡ bit m.map b
  pub one_more : held_count len after.map ≡ held_count len m.map + 1
  pub bytes : block_at after.image block ≡ piece
  pub other_bytes : (i : ℕ) → (i / block_size ≡ block → ⊥) → byte_at after.image i ≡ byte_at m.image i
  pub image_length : length after.image ≡ length m.image
  pub map_length : length after.map ≡ length m.map
