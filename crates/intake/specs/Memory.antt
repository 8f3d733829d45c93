-- Rules 1.5 and 1.7: the two borrowed buffers, image and map, and a block's bytes in the image.
use Rattle.std.specs.Prelude.{◌++◌, ℕ, ◌+◌, ◌*◌, take, drop}
use Rattle.lists.specs.Alias.{Bytes, Words}
use Rattle.format.specs.Size.{block_size}
use Rattle.intake.specs.declared.Memory.{Memory as Borrowed}

pub record Memory : Type 0 where
  pub image : Bytes
  pub map : Words

abbrev pub memory : Bytes → Words → Memory
memory image map = record { image = image; map = map }

-- what the code's struct refers to
abbrev pub memory_of : Borrowed → Memory
memory_of m = memory m.image.now m.map.now

-- the bytes of a block
unfoldable pub block_at : Bytes → ℕ → Bytes
block_at image block = take block_size (drop (block * block_size) image)

-- the image with a block's bytes replaced
unfoldable pub with_block : (image : Bytes) (block : ℕ) (piece : Bytes) → Bytes
with_block image block piece = take (block * block_size) image ++ (piece ++ drop (block * block_size + block_size) image)
