-- Rules 4.1 to 4.6: the pages walked for a table, in the order of the chain. Rests on the pages that a walk comes to (chain/Reads)
-- and on its page layer (specs/Layers).
use Rattle.std.specs.Prelude.{Bool, cond, ◌&&◌, List, [], ◌∷◌, ℕ, zero, suc}
use Rattle.refusal.specs.Answer.{Answer, given, refused}
use Rattle.table.specs.declared.Table.{Table}
use Rattle.bitmap.specs.Bit.{bit}
use Rattle.intake.specs.Memory.{Memory, block_at}
use Rattle.directory.specs.declared.Chain.{Chain}
use Rattle.directory.specs.Chain.{table_chain}
use Rattle.chain.specs.Walk.{Pages}
use Rattle.chain.specs.Reads.{is_given, comes_to}
use Rattle.disjoint.specs.Layers.{Layer, file_layer}

-- Rules 4.2 to 4.5: the walk comes to the page and reads it without a fault
unfoldable pub passes : (pages : Pages) (met : List ℕ) (page : ℕ) → Bool
passes pages met page = comes_to pages met page && is_given (pages.read page)

-- Rules 4.5 and 4.6: the pages walked from this page on, with the fuel of the walk
unfoldable pub walked : (pages : Pages) (fuel : ℕ) (met : List ℕ) (page : ℕ) → List ℕ
walked pages zero met page = []
walked pages (suc fuel) met page =
    cond (passes pages met page)
    (page ∷ cond (pages.is_last page) [] (walked pages fuel (page ∷ met) (pages.next page)))
    []

unfoldable pub walked_from : (pages : Pages) (first : ℕ) → List ℕ
walked_from pages first = walked pages (suc pages.page_count) [] first

-- the pages walked along a table's chain, none where it has no chain
abbrev pub chain_pages : (layer : Layer) (table : Table) (m : Memory) (chain : Answer Chain) → List ℕ
chain_pages layer table m (given c) = walked_from (layer c table m.image m.map) c.first_page
chain_pages layer table m (refused f) = []

-- the pages walked for a table of a file of len bytes, none where block 0 is not held
unfoldable pub pages_by : (layer : Layer) (len : ℕ) (m : Memory) (table : Table) → List ℕ
pages_by layer len m table = cond (bit m.map 0) (chain_pages layer table m (table_chain len (block_at m.image 0) table)) []

abbrev pub pages_walked : (len : ℕ) (m : Memory) (table : Table) → List ℕ
pages_walked len m table = pages_by file_layer len m table
