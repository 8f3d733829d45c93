-- Rule 9.19: by computation. Rule 9.20: from what is known of a page that is read (page: PageAnswer) and of its entries (page: RowsFound).
use mathlib.Core.Path.{◌≡◌, refl}
use Prim.Native.Nat.{ℕ, suc, ◌<◌}
use native.Mathlib.Omega.{arith}
use lib.ListN.{length, get_or}
use Rattle.lists.specs.Alias.{Bytes}
use Rattle.lists.proofs.Each.{each_at}
use Rattle.number.specs.Number.{le16, le24, le32}
use Rattle.refusal.specs.Answer.{given}
use Rattle.table.specs.declared.Table.{Table}
use Rattle.text.specs.Code.{is_code}
use Rattle.text.specs.Text.{head_size, whole_size, is_inside, plain_text, text_in, read_text}
use Rattle.row.specs.Check.{check_texts, check_row}
use Rattle.page.specs.Header.{number_agrees, type_agrees, rowless, entries, num_rows}
use Rattle.page.specs.Index.{index_size, flags_at, offset_at, present, row_start, present_from}
use Rattle.page.specs.Found.{Rows, no_row}
use Rattle.page.specs.Read.{index_fits, count_agrees, index_good, before_index, row_entries, check_rows, read_page}
use Rattle.page.proofs.PageAnswer.{page_refused, page_many, page_row}
use Rattle.page.proofs.RowsFound.{Present, entries_each, entries_grow, growing_next, fault_entry}
use Rattle.edges.specs.Entries.{entry_cases, EntriesHold, RowOf, EveryPage}

pub entries_hold : EntriesHold entry_cases
unfolding le16 le24 le32 head_size whole_size is_inside is_code plain_text text_in read_text check_texts check_row
    number_agrees type_agrees rowless entries num_rows index_size flags_at offset_at present row_start present_from
    index_fits count_agrees index_good before_index row_entries check_rows read_page
entries_hold =
    (refl, (refl, (refl, (refl, (refl, (refl, (refl, (refl, (refl, (refl, (refl, (refl, (refl, (refl, (refl, (refl, tt))))))))))))))))

module _ (number : ℕ) (table : Table) (page : Bytes) (found : Rows) (e : read_page number table page ≡ given found) where
  many : length found ≡ length (row_entries page)
  many = page_many number table page found e

  row_of : (k : ℕ) → k < length found → RowOf number page (get_or found k no_row)
  row_of k h =
      let entry = each_at (Present page (entries page) 0) (row_entries page) k 0 (entries_each page) (omega (arith, many)) in
      rw (page_row number table page found e k h) (record { on = refl; inside = omega (arith, entry.most); there = entry.there; begins = refl })

  rows_grow : (k : ℕ) → suc k < length found → (get_or found k no_row).entry < (get_or found (suc k) no_row).entry
  rows_grow k h = rw (page_row number table page found e k (omega arith), page_row number table page found e (suc k) h) (growing_next (row_entries page) (entries_grow page) k (omega (arith, many)))

pub entries_every : EveryPage
unfolding read_page
entries_every number table page =
    record {
      number_first = λ n. rw n;
      type_next = λ n t. rw (n, t);
      rows = row_of number table page;
      grow = rows_grow number table page;
      carried = λ f e. let known = page_refused number table page f e in (known.1, known.2);
      faults = λ f e k. let known = fault_entry number table page f e k in (omega (arith, known.0.most), known.0.there, known.1);
    }
