-- Reading from a list goes by the layout that block 0 tells: rule 5.28.
--     element_row, listed_start     the row that an element names, in a file of a layout; so block 0's layout answers
--     listed-row                    any answer about the row goes by the row
use mathlib.Core.Path.{◌≡◌, refl}
use Prim.Native.Nat.{ℕ}
use Rattle.lists.specs.Alias.{Places}
use Rattle.refusal.specs.Answer.{Answer, given, refused}
use Rattle.table.specs.declared.Table.{Table}
use Rattle.page.specs.declared.Row.{Row}
use Rattle.bitmap.specs.Bit.{bit}
use Rattle.intake.specs.Memory.{Memory, block_at}
use Rattle.directory.specs.Header.{header_holds}
use Rattle.chain.specs.Found.{Found, found, waiting, then_found}
use Rattle.listed.specs.Listed.{listed_row}
use Rattle.table_walk.specs.Walk.{page_size}
use Rattle.export.specs.FromList.{table_listed}
use Rattle.export.specs.declared.FileLayout.{FileLayout}
use Rattle.export.specs.declared.SizedRow.{SizedRow}
use Rattle.export.specs.Layout.{layout_in, once_held}
use Rattle.export.specs.Private.{sized_row, row_at}
use Rattle.lists.proofs.Choice.{on}

-- the row that an element names in a file of this layout, with the size of its page
abbrev pub element_row : (m : Memory) (list : Places) (i : ℕ) (table : Table) (file : FileLayout) → Answer (Found SizedRow)
element_row m list i table file = then_found (listed_row file.len_page file.page_count table m.image m.map list i) (row_at file.len_page)

pub listed_start : (len : ℕ) (m : Memory) (list : Places) (i : ℕ) (table : Table)
    → then_found (once_held m (layout_in len)) (element_row m list i table) ≡ then_found (table_listed len m list i table) (row_at (page_size m))
unfolding table_listed
listed_start len m list i table =
    on (bit m.map 0) (λ b. on (header_holds len (block_at m.image 0)) (λ h. rw (b, h) refl) (λ h. rw (b, h) refl)) (λ b. rw b refl)

pub listed-row : {A : Type 0} (size : ℕ) (listed : Answer (Found Row)) (answer : SizedRow → Answer (Found A))
    → then_found (then_found listed (row_at size)) answer ≡ then_found listed (λ (row : Row). answer (sized_row size row))
listed-row size (given (found row)) answer = refl
listed-row size (given (waiting page rows pages)) answer = refl
listed-row size (refused f) answer = refl
