-- Rule 9.17: by computation. Rule 9.18: from what is known of a page that is read (page: PageAnswer), and since a page counts in 11 bits.
use mathlib.Core.Path.{◌≡◌, refl}
use mathlib.Core.Bool.{true, false, and-false}
use Prim.Native.Nat.{ℕ, ◌<◌}
use native.Mathlib.Omega.{arith}
use lib.ListN.{length}
use borrow.Author.Tests.{ne_eqb}
use Rattle.lists.specs.Alias.{Bytes}
use Rattle.lists.proofs.Choice.{both_true}
use Rattle.number.specs.Number.{byte_at, le16, le24, le32}
use Rattle.number.proofs.Number.{le24_fits}
use Rattle.refusal.specs.Fault.{fault}
use Rattle.refusal.specs.Answer.{refused}
use Rattle.table.specs.declared.Table.{Table}
use Rattle.text.specs.Code.{is_code}
use Rattle.text.specs.Text.{head_size, whole_size, is_inside, plain_text, text_in, read_text}
use Rattle.row.specs.Check.{check_texts, check_row}
use Rattle.page.specs.Header.{number_agrees, type_agrees, header_agrees, rowless, entries, num_rows}
use Rattle.page.specs.Index.{index_size, flags_at, offset_at, present, row_start, present_from}
use Rattle.page.specs.Read.{index_fits, count_agrees, index_good, before_index, row_entries, check_rows, read_page}
use Rattle.page.proofs.PageAnswer.{page_counted}
use Rattle.edges.specs.Cases.{AllHold}
use Rattle.edges.specs.Counts.{count_cases, EveryCount}

pub counts_hold : AllHold count_cases
unfolding le16 le24 le32 head_size whole_size is_inside is_code plain_text text_in read_text check_texts check_row
    number_agrees type_agrees rowless entries num_rows index_size flags_at offset_at present row_start present_from
    index_fits count_agrees index_good before_index row_entries check_rows read_page
counts_hold =
    (refl, (refl, (refl, (refl, (refl, (refl, (refl, (refl, (refl, (refl, (refl, (refl, (refl, (refl, (refl, (refl, (refl, (refl, (refl, (refl, tt))))))))))))))))))))

few : (page : Bytes) → ((i : ℕ) → byte_at page i < 256) → num_rows page < 2048
unfolding num_rows
few page low = omega (arith, le24_fits page 0x18 low)

other_count : (number : ℕ) (table : Table) (page : Bytes) → header_agrees number table page ≡ true → rowless page ≡ false
    → (length (present_from page (entries page) 0) ≡ num_rows page → ⊥) → read_page number table page ≡ refused (fault 13 number)
unfolding read_page index_good count_agrees
other_count number table page h r differ =
    let agrees = both_true (number_agrees number page) (type_agrees table page) h in
    rw (agrees.0, agrees.1, r, ne_eqb (length (present_from page (entries page) 0)) (num_rows page) differ, and-false (index_fits page))

pub counts_every : EveryCount
counts_every =
    record {
      counted = page_counted;
      too_many = λ number table page low h r many. other_count number table page h r (λ e. omega (arith, many, few page low));
    }
