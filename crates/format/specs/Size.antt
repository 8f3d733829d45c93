-- Rule 1.18: the sizes of a block, a page header and a full row group, each written down once.
use Rattle.std.specs.Prelude.{ℕ}

-- bytes in a block
abbrev pub block_size : ℕ
block_size = 512

-- where a page's rows start, after its header
abbrev pub heap_start : ℕ
heap_start = 0x28

-- bytes that a full group of 16 entries takes in the row index
abbrev pub group_size : ℕ
group_size = 0x24
