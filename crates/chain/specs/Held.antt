-- Rule 4.4: a page is held when each of its blocks is. Rests on the map's bits (crate `bitmap`).
use Rattle.std.specs.Prelude.{Bool, not, ℕ, ◌+◌, ◌*◌, ◌/◌}
use Rattle.lists.specs.Alias.{Words}
use Rattle.lists.specs.Any.{any_from}
use Rattle.format.specs.Size.{block_size}
use Rattle.bitmap.specs.Bit.{bit}

-- blocks in a page of size bytes
abbrev pub blocks_in_page : ℕ → ℕ
blocks_in_page size = size / block_size

-- block i of the page is not held
unfoldable pub block_missing : (size : ℕ) (map : Words) (page i : ℕ) → Bool
block_missing size map page i = not (bit map (page * blocks_in_page size + i))

-- none of the page's blocks is missing
unfoldable pub page_held : (size : ℕ) (map : Words) (page : ℕ) → Bool
page_held size map page = not (any_from (block_missing size map page) (blocks_in_page size) 0)
