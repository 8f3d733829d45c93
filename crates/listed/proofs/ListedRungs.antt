-- Rules 5.29 to 5.31: which rung of `listed_row` answers, by the tests of the code.
--     past_list, no_page, page_missing     the element, its page, and the page's blocks
--     row_read                             the row is read
use mathlib.Core.Path.{◌≡◌}
use mathlib.Core.Bool.{Bool, true, false}
use Prim.Native.Nat.{ℕ, ◌%◌, ◌<◌, ◌≤◌, min}
use native.Mathlib.Nat.{div-zero}
use lib.ListN.{length, get_or}
use lib.Dec.{leb}
use borrow.Author.Tests.{le-leb, lt-leb}
use Rattle.lists.specs.Alias.{Bytes, Words, Places}
use Rattle.format.specs.Place.{linkable}
use Rattle.refusal.specs.Fault.{fault}
use Rattle.refusal.specs.Answer.{Answer, given, refused, and_then}
use Rattle.table.specs.declared.Table.{Table}
use Rattle.page.specs.declared.Row.{Row}
use Rattle.page.specs.OneRow.{read_row}
use Rattle.chain.specs.Found.{Found, found, waiting}
use Rattle.chain.specs.Held.{page_held}
use Rattle.chain.specs.File.{page_part}
use Rattle.page.proofs.OneRowAnswer.{rank_most}
use Rattle.chain.proofs.PagePart.{part_short}
use Rattle.listed.specs.Rank.{page_of, run_before, rank}
use Rattle.listed.specs.Listed.{listed_row}

module _ (size page_count : ℕ) (table : Table) (image : Bytes) (map : Words) (list : Places) (i : ℕ) where
  pub past_list : length list ≤ i → refused (fault 18 0) ≡ listed_row size page_count table image map list i
  unfolding listed_row
  past_list h = rw (le-leb (length list) i h)

  module _ (h : i < length list) where
    inside : leb (length list) i ≡ false
    inside = lt-leb (length list) i h

    pub no_page : {linked : Bool} → linked ≡ linkable page_count (page_of size list i) → linked ≡ false
        → refused (fault 18 0) ≡ listed_row size page_count table image map list i
    unfolding listed_row
    no_page e l = rw (inside, ← e, l)

    module _ {linked : Bool} (e : linked ≡ linkable page_count (page_of size list i)) (l : linked ≡ true) {held : Bool}
        (f : held ≡ page_held size map (page_of size list i)) where
      pub page_missing : held ≡ false → given (waiting (page_of size list i) 0 0) ≡ listed_row size page_count table image map list i
      unfolding listed_row
      page_missing m = rw (inside, ← e, l, ← f, m)

      pub row_read : held ≡ true → {count : ℕ} → count ≡ min size (run_before size list (page_of size list i) i) → {answer : Answer (Found Row)}
          → answer ≡ and_then
          (read_row (page_of size list i) table (page_part size image (page_of size list i)) (get_or list i 0 % size) count) (λ row. given (found row))
          → answer ≡ listed_row size page_count table image map list i
      unfolding listed_row rank
      row_read m c a =
          let number = page_of size list i in
          let page = page_part size image number in
          let start = get_or list i 0 % size in
          let ranked = rank_most number table page start (run_before size list number i) size (part_short image size number) in
          rw (inside, ← e, l, ← f, m, ← ranked, ← c) a

-- pages of no bytes: every place is said to lie on page 0, which is no page of a table
pub no_size : (size page_count : ℕ) (list : Places) (i : ℕ) → size ≡ 0 → false ≡ linkable page_count (page_of size list i)
unfolding linkable
no_size size page_count list i e = rw (e, div-zero (get_or list i 0))
