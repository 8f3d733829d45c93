-- The blocks of a page: their numbers are far below 2 ^ 64, and the page is held where the map has each of them. Rule 4.4.
use mathlib.Core.Path.{◌≡◌}
use mathlib.Core.Bool.{Bool}
use Prim.Native.Nat.{ℕ, ◌+◌, ◌*◌}
use Rattle.std.specs.List.{list_all, range_with_len}
use Rattle.lists.specs.Alias.{Words}
use Rattle.bitmap.specs.Bit.{bit}
use Rattle.chain.specs.Held.{blocks_in_page, block_missing, page_held}
use Rattle.lists.proofs.Any.{all_range}

-- whether block i of the page is held
abbrev pub block_held : (size : ℕ) (map : Words) (page i : ℕ) → Bool
block_held size map page i = bit map (page * blocks_in_page size + i)

pub all_held : (size : ℕ) (map : Words) (page : ℕ) → list_all (block_held size map page) (range_with_len 0 (blocks_in_page size)) ≡ page_held size map page
unfolding page_held block_missing
all_held size map page = all_range (block_held size map page) (blocks_in_page size) 0
