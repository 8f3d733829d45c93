-- What there is along a table's chain (crate `directory`, `table_chain`): its walk, the rows on its pages and their places, and the pages that the walk reads.
-- Rules 4.1, 4.10 and 7.3.
use Rattle.std.specs.Prelude.{Bool, false, [], ℕ}
use Rattle.lists.specs.Alias.{Bytes, Words, Places}
use Rattle.refusal.specs.Answer.{Answer, given, refused, and_then}
use Rattle.table.specs.declared.Table.{Table}
use Rattle.directory.specs.declared.Chain.{Chain}
use Rattle.page.specs.Found.{Rows}
use Rattle.chain.specs.Walk.{Walk, walk_from}
use Rattle.chain.specs.File.{file_pages, rows_first, places_along}
use Rattle.chain.specs.Reads.{reads_from}

abbrev pub chain_walk : (table : Table) (image : Bytes) (map : Words) (chain : Answer Chain) → Walk Rows
chain_walk table image map chain = and_then chain (λ c. walk_from (file_pages c table image map) c.first_page)

-- the rows on the first pages of the chain
abbrev pub chain_rows : (image : Bytes) (pages : ℕ) (chain : Answer Chain) → Rows
chain_rows image pages (given c) = rows_first c.len_page image pages c.first_page
chain_rows image pages (refused f) = []

-- the places that are written of them
abbrev pub chain_places : (image : Bytes) (pages : ℕ) (chain : Answer Chain) → Places
chain_places image pages (given c) = places_along c.len_page image pages c.first_page
chain_places image pages (refused f) = []

-- is true exactly when the walk reads page q
abbrev pub chain_reads : (table : Table) (image : Bytes) (map : Words) (chain : Answer Chain) (q : ℕ) → Bool
chain_reads table image map (given c) q = reads_from (file_pages c table image map) c.first_page q
chain_reads table image map (refused f) q = false
