-- The number of pages that the answer to a question carries is that of the walk for the table asked for: rules 5.20, 5.23 and 5.24.
--     AskedPages, answer_pages     the table, and the number that its walk carries
use mathlib.Core.Path.{◌≡◌, refl, sym, ◌∙◌}
use mathlib.Core.Bool.{not}
use mathlib.Core.Option.{Option, none, some}
use Prim.Native.Nat.{ℕ}
use lib.ListN.{length, get_or}
use lib.Dec.{ltb}
use Rattle.lists.specs.Alias.{Places}
use Rattle.refusal.specs.declared.Fault.{Fault}
use Rattle.refusal.specs.Answer.{Answer, given, refused, and_then}
use Rattle.table.specs.declared.Table.{Table}
use Rattle.table.specs.Table.{table_of, slot_count}
use Rattle.text.specs.Text.{TextAt}
use Rattle.row.specs.Slot.{slot_text}
use Rattle.page.specs.declared.Row.{Row}
use Rattle.page.specs.Found.{Rows, no_row}
use Rattle.intake.specs.Memory.{Memory}
use Rattle.chain.specs.Walk.{Walk, full, waiting}
use Rattle.chain.specs.Found.{Found}
use Rattle.table_walk.specs.Asked.{asked_table}
use Rattle.table_walk.specs.Walk.{page_size, table_walk}
use Rattle.export.specs.Rows.{rows_answer, ask_rows}
use Rattle.export.specs.Row.{settle_row, row_part}
use Rattle.export.specs.Record.{record_at, table_record, ask_record}
use Rattle.export.specs.Text.{text_found, text_at, table_text, ask_text}
use Rattle.run.specs.Call.{Question, all_rows, one_record, one_text, answer}
use Rattle.run.specs.Refusal.{table_asked}
use Rattle.disjoint.specs.Carried.{pages_in_walk, pages_in_found, pages_in_reply}
use Rattle.lists.proofs.Choice.{never, cond_holds}
use Rattle.table_walk.proofs.AskedTable.{asked_sound, sound_asked}

-- an answer that carries a number by `carried` carries the one of this walk
abbrev Carries : {A : Type 0} (carried : Answer A → Option ℕ) (n : ℕ) (w : Walk Rows) (a : Answer A) → Type 0
Carries carried n w a = carried a ≡ some n → pages_in_walk w ≡ some n

rows_carried : (list : Places) (n : ℕ) (w : Walk Rows) → pages_in_walk (rows_answer list w) ≡ some n → pages_in_walk w ≡ some n
rows_carried list n (given (full rows pages)) =
    cond_holds (Carries pages_in_walk n (given (full rows pages))) (ltb (length list) (length rows)) (λ _ e. never (cc)) (λ _ e. e)
rows_carried list n (given (waiting page rows pages)) =
    cond_holds (Carries pages_in_walk n (given (waiting page rows pages))) (ltb (length list) (length rows)) (λ _ e. never (cc)) (λ _ e. e)
rows_carried list n (refused f) = λ e. e

-- `a` answers for a row that is found, and carries no number
row_carried : {A : Type 0} (a : Row → Answer (Found A)) → ((row : Row) → pages_in_found (a row) ≡ none) → (k n : ℕ) (w : Walk Rows)
    → Carries pages_in_found n w (settle_row a k w)
row_carried a finds k n (given (full rows pages)) =
    cond_holds (Carries pages_in_found n (given (full rows pages))) (not (ltb k (length rows))) (λ _ e. never (cc))
    (λ _ e. never (cc (finds (get_or rows k no_row))))
row_carried a finds k n (given (waiting page rows pages)) =
    cond_holds (Carries pages_in_found n (given (waiting page rows pages))) (not (ltb k (length rows))) (λ _ e. e)
    (λ _ e. never (cc (finds (get_or rows k no_row))))
row_carried a finds k n (refused f) = λ e. never (cc)

text-found : (row : Row) (size : ℕ) (text : Answer TextAt) → pages_in_found (text_found row size text) ≡ none
text-found row size (given t) = refl
text-found row size (refused f) = refl

pub record AskedPages (len : ℕ) (m : Memory) (number n : ℕ) : Type 0 where
  pub table : Table
  pub named : table_of number ≡ given table
  pub carried : pages_in_walk (table_walk len m table) ≡ some n

module _ (len : ℕ) (m : Memory) (number n : ℕ) where
  -- behind refusals 1 to 4 and 8 the question is answered for its table
  asked_pages : {A : Type 0} (carried : Answer A → Option ℕ) → ((f : Fault) → carried (refused f) ≡ none)
      → (ask : Table → Answer A) → ((table : Table) → Carries carried n (table_walk len m table) (ask table))
      → carried (and_then (asked_table len m number) ask) ≡ some n → AskedPages len m number n
  asked_pages carried nothing ask each e = by (asked_table len m number) refl e
    where
      by : (a : Answer Table) → asked_table len m number ≡ a → carried (and_then a ask) ≡ some n → AskedPages len m number n
      by (given table) q r =
          record {
            table = table;
            named = sym (sound_asked len m number (asked_sound len m number (sym q))) ∙ q;
            carried = each table r;
          }
      by (refused f) q r = never (cc (nothing f))

  pub rows_pages : (list : Places) → pages_in_walk (ask_rows len m number list).answer ≡ some n → AskedPages len m number n
  unfolding ask_rows
  rows_pages list = asked_pages (λ (w : Walk Rows). pages_in_walk (rows_answer list w)) (λ f. refl) (table_walk len m) (λ table. rows_carried list n (table_walk len m table))

  pub record_pages : (k : ℕ) → pages_in_found (ask_record len m number k) ≡ some n → AskedPages len m number n
  unfolding ask_record
  record_pages k =
      asked_pages pages_in_found (λ f. refl) (table_record len m k) (λ table. row_carried (record_at m table) (λ row. refl) k n (table_walk len m table))

  pub text_pages : (k slot : ℕ) → pages_in_found (ask_text len m number k slot) ≡ some n → AskedPages len m number n
  unfolding ask_text
  text_pages k slot =
      asked_pages pages_in_found (λ f. refl) (table_text len m k slot)
      (λ table. cond_holds (Carries pages_in_found n (table_walk len m table)) (not (ltb slot (slot_count table))) (λ _ e. never (cc))
      (λ _. row_carried (text_at m table slot) (λ row. text-found row (page_size m) (slot_text table (row_part (page_size m) m.image row) slot)) k n
      (table_walk len m table)))

pub answer_pages : (len : ℕ) (m : Memory) (q : Question) (n : ℕ) → pages_in_reply (answer len m q) ≡ some n → AskedPages len m (table_asked q) n
answer_pages len m (all_rows number list) n = rows_pages len m number n list
answer_pages len m (one_record number k) n = record_pages len m number n k
answer_pages len m (one_text number k slot) n = text_pages len m number n k slot
