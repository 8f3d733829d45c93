-- The walk for a table of a file of len bytes, from its image and map: rules 3.2 and 3.14.
-- Rests on `table_chain` of crate `directory` and `chain_walk` of crate `chain`.
use Rattle.std.specs.Prelude.{cond, unwrap_or, [], ℕ}
use Rattle.refusal.specs.Answer.{given}
use Rattle.table.specs.declared.Table.{Table}
use Rattle.bitmap.specs.Bit.{bit}
use Rattle.intake.specs.Memory.{Memory, block_at}
use Rattle.directory.specs.declared.Directory.{Directory}
use Rattle.directory.specs.Header.{len_page}
use Rattle.directory.specs.Directory.{no_directory, read_header}
use Rattle.directory.specs.Chain.{table_chain}
use Rattle.page.specs.Found.{Rows}
use Rattle.chain.specs.Walk.{Walk, waiting}
use Rattle.chain.specs.Chain.{chain_walk}

-- len_page, as block 0 has it
abbrev pub page_size : Memory → ℕ
page_size m = len_page (block_at m.image 0)

unfoldable pub table_walk : (len : ℕ) (m : Memory) (table : Table) → Walk Rows
table_walk len m table =
    cond (bit m.map 0)
    (chain_walk table m.image m.map (table_chain len (block_at m.image 0) table))
    (given (waiting 0 [] 0))

-- the directory that the walk goes by: a directory of zeros where block 0 is not held or the header is broken (rule 3.9)
unfoldable pub walk_directory : ℕ → Memory → Directory
walk_directory len m = cond (bit m.map 0) (unwrap_or (read_header len (block_at m.image 0)) no_directory) no_directory
