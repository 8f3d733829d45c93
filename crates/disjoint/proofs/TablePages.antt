-- The pages walked for a table of a file, from image and map (specs/Pages).
--     pages_distinct            they differ from each other
--     pages_read                they are the pages that the walk for the table reads without a fault
--     TablePage, table_page     each has the table's number as its type
--     rows_walked               each row found is on one of them
--     pages_counted             the walk for the table carries their number, if it is not refused
-- Rests on proofs/WalkedPages, on the pages that the walk for a table reads (table_walk: PageWalked) and on what reading a page tests (page: PageAnswer).
use mathlib.Core.Path.{◌≡◌, refl, sym, ◌∙◌}
use mathlib.Core.Bool.{true, ◌&&◌, false≢true}
use mathlib.Core.List.{[]}
use mathlib.Core.Option.{some}
use Prim.Native.Nat.{ℕ, suc, ◌<◌}
use native.Mathlib.Omega.{arith}
use lib.ListN.{length, get_or}
use borrow.Author.Tests.{eqb-true}
use Rattle.lists.specs.Alias.{Bytes}
use Rattle.lists.specs.Member.{is_member}
use Rattle.lists.specs.Distinct.{Distinct}
use Rattle.refusal.specs.Answer.{Answer, given, refused}
use Rattle.table.specs.declared.Table.{Table}
use Rattle.table.specs.Table.{table_number}
use Rattle.page.specs.Header.{type, number_agrees, type_agrees}
use Rattle.page.specs.declared.Row.{Row}
use Rattle.page.specs.Found.{Rows, no_row}
use Rattle.page.specs.Read.{read_page}
use Rattle.bitmap.specs.Bit.{bit}
use Rattle.intake.specs.Memory.{Memory, block_at}
use Rattle.directory.specs.declared.Chain.{Chain}
use Rattle.directory.specs.Chain.{table_chain}
use Rattle.chain.specs.Walk.{Walk, full, waiting}
use Rattle.chain.specs.File.{page_part}
use Rattle.chain.specs.Reads.{is_given, reads_from}
use Rattle.chain.specs.Chain.{chain_walk, chain_reads}
use Rattle.table_walk.specs.Walk.{page_size, table_walk}
use Rattle.table_walk.specs.Reads.{table_reads}
use Rattle.export.specs.Rows.{rows_found}
use Rattle.disjoint.specs.Layers.{file_layer}
use Rattle.disjoint.specs.Pages.{walked_from, chain_pages, pages_by, pages_walked}
use Rattle.disjoint.specs.Carried.{pages_in_walk}
use Rattle.disjoint.specs.Disjoint.{read_page_in}
use Rattle.lists.proofs.Choice.{on, never, cond_holds, both_true}
use Rattle.lists.proofs.Each.{each_at, each_every}
use Rattle.page.proofs.PageAnswer.{page_read, page_row}
use Rattle.directory.proofs.ChainAnswer.{chain_given}
use Rattle.table_walk.proofs.TableWalk.{table_walk_holds}
use Rattle.table_walk.proofs.PageWalked.{PageWalked, reads_table, page_walked}
use Rattle.table_walk.proofs.EachFound.{EachFound, found_each}
use Rattle.disjoint.proofs.WalkedPages.{walked_distinct, walked_read, Counted, from_counted}

-- a page that is read without a fault has the type of the table
read_typed : (number : ℕ) (table : Table) (page : Bytes) (a : Answer Rows) → read_page number table page ≡ a → is_given a ≡ true → type page ≡ table_number table
unfolding type_agrees
read_typed number table page (given rows) e g =
    eqb-true (type page) (table_number table)
    (both_true (number_agrees number page) (type_agrees table page) (page_read number table page rows e).header).1
read_typed number table page (refused f) e g = absurd (false≢true g)

-- a page that the walk reads, with the table's number as its type
pub record TablePage (len : ℕ) (m : Memory) (table : Table) (page : ℕ) : Type 0 where
  pub walked : PageWalked len m page
  pub typed : type (page_part (page_size m) m.image page) ≡ table_number table

module _ (len : ℕ) (m : Memory) (table : Table) where
  pub pages_distinct : Distinct (pages_walked len m table)
  unfolding pages_by walked_from
  pages_distinct = cond_holds Distinct (bit m.map 0) (λ _. by (table_chain len (block_at m.image 0) table)) (λ _. tt)
    where
      by : (a : Answer Chain) → Distinct (chain_pages file_layer table m a)
      by (given c) = walked_distinct (file_layer c table m.image m.map) (suc c.page_count) [] c.first_page
      by (refused f) = tt

  pub pages_read : (page : ℕ) → is_member page (pages_walked len m table) ≡ (table_reads len m table page && is_given (read_page_in m table page))
  unfolding pages_by table_reads is_member walked_from reads_from
  pages_read page = on (bit m.map 0) (λ b. rw b (by (table_chain len (block_at m.image 0) table) refl)) (λ b. rw b)
    where
      by : (a : Answer Chain) → table_chain len (block_at m.image 0) table ≡ a
          → is_member page (chain_pages file_layer table m a) ≡ (chain_reads table m.image m.map a page && is_given (read_page_in m table page))
      by (given c) q =
          rw (← (chain_given len (block_at m.image 0) table c q).linked.len_page)
          (walked_read (file_layer c table m.image m.map) (suc c.page_count) [] c.first_page page)
      by (refused f) q = refl

  pub table_page : (page : ℕ) → is_member page (pages_walked len m table) ≡ true → TablePage len m table page
  table_page page e =
      let parts = both_true (table_reads len m table page) (is_given (read_page_in m table page)) (sym (pages_read page) ∙ e) in
      record {
        walked = page_walked len m table page parts.0;
        typed = read_typed page table (page_part (page_size m) m.image page) (read_page_in m table page) refl parts.1;
      }

  -- a row is on a page walked
  abbrev OnPage : Row → Type 0
  OnPage row = is_member row.page (pages_walked len m table) ≡ true

  found_walked : EachFound OnPage (table_walk len m table)
  found_walked =
      table_walk_holds len m table (EachFound OnPage) tt (λ _ _. tt)
      (λ c b q. let size = (chain_given len (block_at m.image 0) table c q).linked.len_page in
      found_each OnPage (file_layer c table m.image m.map) c.first_page
      (λ page some r e. let read = rw size at e in
      each_every OnPage some no_row
      (λ k h. rw (page_row page table (page_part (page_size m) m.image page) some read k h, pages_read page, reads_table len m table page b (rw q r), read))))

  pub rows_walked : (k : ℕ) → k < length (rows_found (table_walk len m table)) → OnPage (get_or (rows_found (table_walk len m table)) k no_row)
  rows_walked k = by (table_walk len m table) found_walked
    where
      by : (w : Walk Rows) → EachFound OnPage w → k < length (rows_found w) → OnPage (get_or (rows_found w) k no_row)
      by (given (full rows n)) e h = each_at OnPage rows k no_row e h
      by (given (waiting page rows n)) e h = each_at OnPage rows k no_row e h
      by (refused f) e h = absurd (omega arith)

  table_counted : Counted (table_walk len m table) (pages_walked len m table)
  unfolding table_walk pages_by
  table_counted = on (bit m.map 0) (λ b. rw b (by (table_chain len (block_at m.image 0) table))) (λ b. rw b refl)
    where
      by : (a : Answer Chain) → Counted (chain_walk table m.image m.map a) (chain_pages file_layer table m a)
      by (given c) = from_counted (file_layer c table m.image m.map) c.first_page
      by (refused f) = tt

  pub pages_counted : (n : ℕ) → pages_in_walk (table_walk len m table) ≡ some n → n ≡ length (pages_walked len m table)
  pages_counted n e = by (table_walk len m table) table_counted e
    where
      by : (w : Walk Rows) → Counted w (pages_walked len m table) → pages_in_walk w ≡ some n → n ≡ length (pages_walked len m table)
      by (given (full rows k)) c q = cc
      by (given (waiting page rows k)) c q = cc
      by (refused f) c q = never (cc)
