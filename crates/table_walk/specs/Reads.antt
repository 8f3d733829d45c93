-- Rule 7.3: the pages that the walk for a table of a file of len bytes reads.
use Rattle.std.specs.Prelude.{Bool, ◌&&◌, ℕ}
use Rattle.table.specs.declared.Table.{Table}
use Rattle.bitmap.specs.Bit.{bit}
use Rattle.intake.specs.Memory.{Memory, block_at}
use Rattle.directory.specs.Chain.{table_chain}
use Rattle.chain.specs.Chain.{chain_reads}

-- is true exactly when the walk reads page q
unfoldable pub table_reads : (len : ℕ) (m : Memory) (table : Table) (q : ℕ) → Bool
table_reads len m table q =
    bit m.map 0 && chain_reads table m.image m.map (table_chain len (block_at m.image 0) table) q
