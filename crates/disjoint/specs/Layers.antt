-- The page layer (chain/Walk) that the walk for a table goes by, and two misreadings of rule 4.19. For these the statement of specs/Disjoint is false
-- (specs/Examples).
use Rattle.std.specs.Prelude.{cond, [], ◌∷◌, ℕ, eqb}
use Rattle.std.proofs.lemmas.List.Edits.{sets}
use Rattle.lists.specs.Alias.{Bytes, Words}
use Rattle.refusal.specs.Answer.{Answer}
use Rattle.table.specs.declared.Table.{Table}
use Rattle.table.specs.Table.{table_number}
use Rattle.page.specs.Found.{Rows}
use Rattle.page.specs.Read.{read_page}
use Rattle.directory.specs.declared.Chain.{Chain}
use Rattle.chain.specs.Walk.{Pages}
use Rattle.chain.specs.File.{page_part, file_pages}

-- a page layer for each chain of each file
abbrev pub Layer : Type 0
Layer = (chain : Chain) (table : Table) (image : Bytes) (map : Words) → Pages

-- the same pages, read otherwise
abbrev pub read_by : (pages : Pages) (read : ℕ → Answer Rows) → Pages
read_by pages read = record { page_count = pages.page_count; is_last = pages.is_last; held = pages.held; read = read; next = pages.next }

-- the page with the table's number as its type
abbrev pub as_typed : (table : Table) (page : Bytes) → Bytes
as_typed table page = sets page 0x08 (table_number table ∷ 0 ∷ 0 ∷ 0 ∷ [])

-- a misreading: the type of a page is not tested
abbrev pub untyped : Layer
untyped c table image map = read_by (file_pages c table image map) (λ (number : ℕ). read_page number table (as_typed table (page_part c.len_page image number)))

-- a misreading: it is tested on the chain's first page alone
abbrev pub typed_first : Layer
typed_first c table image map =
    read_by (file_pages c table image map) (λ (number : ℕ).
    cond (eqb number c.first_page) ((file_pages c table image map).read number) ((untyped c table image map).read number))

-- the one that the walk for a table goes by
abbrev pub file_layer : Layer
file_layer = file_pages
