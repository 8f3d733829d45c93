-- What `page::read` tells the walk of a page: its count of rows, which is at most the page's length, or its fault. Rule 4.5.
use mathlib.Core.Path.{◌≡◌, refl, ap, sym, ◌∙◌}
use Prim.Native.Nat.{ℕ, ◌≤◌}
use native.Mathlib.Omega.{arith}
use lib.ListN.{length}
use Rattle.lists.specs.Alias.{Bytes}
use Rattle.refusal.specs.declared.Refusal.{Refusal}
use Rattle.refusal.specs.Fault.{fault_of}
use Rattle.refusal.specs.Answer.{Answer, given, refused, answer_of}
use Rattle.table.specs.declared.Table.{Table}
use Rattle.std.specs.Prelude.{Result, Ok, Err}
use Rattle.page.specs.Read.{read_page, row_count}
use Rattle.page.specs.Found.{Rows}
use Rattle.chain.specs.File.{page_part}
use Rattle.lists.proofs.Choice.{never}
use Rattle.page.proofs.RowEntries.{rows_short}
use Rattle.page.proofs.PageAnswer.{page_many}
use Rattle.chain.proofs.PagePart.{part_short}

module _ {page : Bytes} (size : ℕ) (image : Bytes) (number : ℕ) (table : Table) (p : page ≡ page_part size image number) {r : Result ℕ Refusal}
    (e : answer_of r ≡ row_count (read_page number table page)) where
  pub read_given : {found : ℕ} → r ≡ Ok found → given found ≡ row_count (read_page number table (page_part size image number))
  read_given k = ap answer_of (sym k) ∙ e ∙ rw p

  pub read_refused : {f : Refusal} → r ≡ Err f → refused (fault_of f) ≡ row_count (read_page number table (page_part size image number))
  read_refused k = ap answer_of (sym k) ∙ e ∙ rw p

count_short : (number : ℕ) (table : Table) (page : Bytes) (a : Answer Rows) → read_page number table page ≡ a → (found : ℕ) → given found ≡ row_count a
    → found ≤ length page
count_short number table page (given rows) e found k =
    let n : found ≡ length rows = cc in
    omega (arith, page_many number table page rows e, rows_short page)
count_short number table page (refused f) e found k = never (cc)

pub found_low : (size : ℕ) (image : Bytes) (number : ℕ) (table : Table) (found : ℕ)
    → given found ≡ row_count (read_page number table (page_part size image number)) → found ≤ size
found_low size image number table found e =
    let page = page_part size image number in
    omega (arith, part_short image size number, count_short number table page (read_page number table page) refl found e)
