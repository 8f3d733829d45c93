-- Rule 5.32 (specs/FromList, `EveryList`): the list that all rows left begins with the rows found, and each is read as it was found.
--     list_reads                        so it answers as the questions do
--     record_answered, text_answered      and their answers about a row that was written do not wait
-- Rests on the row that an element names (export: ListedRow).
use mathlib.Core.Path.{◌≡◌, refl, ap, ◌∙◌}
use mathlib.Core.Bool.{false}
use Prim.Native.Nat.{ℕ, ◌<◌, ◌≤◌}
use native.Mathlib.Omega.{arith}
use lib.ListN.{length, drop, get_or, length-append, length-map, get_or-append}
use lib.Dec.{ltb}
use borrow.Author.Tests.{ltb-false, lt-ltb}
use Rattle.lists.specs.Alias.{Places}
use Rattle.lists.specs.Write.{written}
use Rattle.lists.proofs.Choice.{on}
use Rattle.lists.proofs.Each.{Each, each_at}
use Rattle.lists.proofs.Sets.{written_front}
use Rattle.refusal.specs.Answer.{Answer, given, refused, and_then}
use Rattle.text.specs.Text.{TextAt}
use Rattle.table.specs.declared.Table.{Table}
use Rattle.table.specs.Table.{slot_count}
use Rattle.row.specs.Slot.{slot_text}
use Rattle.page.specs.declared.Row.{Row}
use Rattle.page.specs.Found.{Rows, place_of, places, no_row}
use Rattle.intake.specs.Sound.{Sound}
use Rattle.intake.specs.Memory.{Memory}
use Rattle.chain.specs.Walk.{Walk, full, waiting}
use Rattle.chain.specs.Found.{Found, then_found}
use Rattle.listed.proofs.RowsRanked.{RowThere, RowsThere}
use Rattle.table_walk.specs.Asked.{asked_table}
use Rattle.table_walk.specs.Walk.{page_size, table_walk}
use Rattle.export.specs.Rows.{rows_written, rows_answer, list_after, settle_rows, ask_rows}
use Rattle.export.specs.Row.{settle_row, row_part}
use Rattle.export.specs.Record.{record_at, table_record, ask_record}
use Rattle.export.specs.Text.{text_found, text_at, table_text, ask_text}
use Rattle.export.specs.FromList.{table_listed, record_listed, ask_record_in, text_listed, ask_text_in}
use Rattle.table_walk.proofs.AskedTable.{asked_sound}
use Rattle.table_walk.proofs.EachFound.{EachFound}
use Rattle.export.proofs.FoundRow.{FoundRow, rows_found}
use Rattle.export.proofs.ListedRow.{rows_ranked, row_listed}
use Rattle.run.specs.FromList.{EveryList, NotWaiting}

-- a list that rows were written to begins with them
module _ (list rows : Places) (h : length rows ≤ length list) where
  written_long : length rows ≤ length (written list rows)
  written_long = rw (written_front list rows h, length-append rows (drop (length rows) list)) (omega arith)

  written_at : (j : ℕ) → j < length rows → get_or (written list rows) j 0 ≡ get_or rows j 0
  written_at j l = ap (λ (x : Places). get_or x j 0) (written_front list rows h) ∙ get_or-append rows (drop (length rows) list) 0 j l

module _ (len : ℕ) (m : Memory) (table : Table) (sound : Sound len m) (list : Places) (i : ℕ) {A : Type 0} (answer : Row → Answer (Found A)) where
  -- element i of the rows found
  module _ (rows : Rows) (each : Each (FoundRow len m table) rows) (there : (k : ℕ) → k < length rows → RowThere (page_size m) m.image rows k)
      (short : ltb (length list) (length rows) ≡ false) (h : i < length rows) where
    element_read : then_found (table_listed len m (written list (places (page_size m) rows)) i table) answer ≡ answer (get_or rows i no_row)
    element_read =
        let all = places (page_size m) rows in
        let many = length-map rows (place_of (page_size m)) in
        let short = ltb-false (length list) (length rows) short in
        let long : length all ≤ length list = omega arith in
        rw (row_listed len m table sound rows (written list all) i h (omega (arith, written_long list all long)) (λ j l. written_at list all long j (omega arith))
        (each_at (FoundRow len m table) rows i no_row each h) (there i h)) refl

  read_as_settled : (w : Walk Rows) → EachFound (FoundRow len m table) w → RowsThere (page_size m) m.image w → i < rows_written (rows_answer list w)
      → then_found (table_listed len m (list_after (page_size m) list w (rows_answer list w)) i table) answer ≡ settle_row answer i w
  read_as_settled (given (full rows pages)) each there h =
      on (ltb (length list) (length rows)) (λ s. absurd (omega (arith, rw s at h)))
      (λ s. let l : i < length rows = rw s at h in rw (s, lt-ltb i (length rows) l) (element_read rows each there s l))
  read_as_settled (given (waiting page rows pages)) each there h =
      on (ltb (length list) (length rows)) (λ s. absurd (omega (arith, rw s at h)))
      (λ s. let l : i < length rows = rw s at h in rw (s, lt-ltb i (length rows) l) (element_read rows each there s l))
  read_as_settled (refused f) each there h = absurd (omega arith)

  pub read_as_asked : i < rows_written (rows_answer list (table_walk len m table))
      → then_found (table_listed len m (list_after (page_size m) list (table_walk len m table) (rows_answer list (table_walk len m table))) i table) answer
      ≡ settle_row answer i (table_walk len m table)
  read_as_asked = read_as_settled (table_walk len m table) (rows_found len m table) (rows_ranked len m table sound)

module _ (len : ℕ) (m : Memory) (number : ℕ) (list : Places) where
  records : (i : ℕ) → i < rows_written (ask_rows len m number list).answer
      → ask_record_in len m number (ask_rows len m number list).list i ≡ ask_record len m number i
  unfolding ask_rows ask_record_in ask_record
  records i = by (asked_table len m number) refl
    where
      by : (x : Answer Table) → x ≡ asked_table len m number → i < rows_written (settle_rows (page_size m) list (and_then x (table_walk len m))).answer
          → and_then x (record_listed len m (settle_rows (page_size m) list (and_then x (table_walk len m))).list i) ≡ and_then x (table_record len m i)
      by (given table) e h = read_as_asked len m table (asked_sound len m number e) list i (record_at m table) h
      by (refused f) e h = refl

  texts : (i slot : ℕ) → i < rows_written (ask_rows len m number list).answer
      → ask_text_in len m number (ask_rows len m number list).list i slot ≡ ask_text len m number i slot
  unfolding ask_rows ask_text_in ask_text
  texts i slot = by (asked_table len m number) refl
    where
      by : (x : Answer Table) → x ≡ asked_table len m number → i < rows_written (settle_rows (page_size m) list (and_then x (table_walk len m))).answer
          → and_then x (text_listed len m (settle_rows (page_size m) list (and_then x (table_walk len m))).list i slot) ≡ and_then x (table_text len m i slot)
      by (given table) e h =
          on (ltb slot (slot_count table)) (λ s. rw s (read_as_asked len m table (asked_sound len m number e) list i (text_at m table slot) h)) (λ s. rw s)
      by (refused f) e h = refl

-- the answer about a row that was written does not wait
settle_answered : {A : Type 0} (answer : Row → Answer (Found A)) → ((row : Row) → NotWaiting (answer row)) → (list : Places) (i : ℕ) (w : Walk Rows)
    → i < rows_written (rows_answer list w) → NotWaiting (settle_row answer i w)
settle_answered answer each list i (given (full rows pages)) h =
    on (ltb (length list) (length rows)) (λ s. absurd (omega (arith, rw s at h)))
    (λ s. rw (lt-ltb i (length rows) (rw s at h)) (each (get_or rows i no_row)))
settle_answered answer each list i (given (waiting page rows pages)) h =
    on (ltb (length list) (length rows)) (λ s. absurd (omega (arith, rw s at h)))
    (λ s. rw (lt-ltb i (length rows) (rw s at h)) (each (get_or rows i no_row)))
settle_answered answer each list i (refused f) h = absurd (omega arith)

found_answered : (row : Row) (size : ℕ) (text : Answer TextAt) → NotWaiting (text_found row size text)
found_answered row size (given t) = tt
found_answered row size (refused f) = tt

module _ (len : ℕ) (m : Memory) (number : ℕ) (list : Places) where
  pub record_answered : (i : ℕ) → i < rows_written (ask_rows len m number list).answer → NotWaiting (ask_record len m number i)
  unfolding ask_rows ask_record
  record_answered i = by (asked_table len m number)
    where
      by : (x : Answer Table) → i < rows_written (settle_rows (page_size m) list (and_then x (table_walk len m))).answer → NotWaiting (and_then x (table_record len m i))
      by (given table) h = settle_answered (record_at m table) (λ row. tt) list i (table_walk len m table) h
      by (refused f) h = tt

  pub text_answered : (i slot : ℕ) → i < rows_written (ask_rows len m number list).answer → NotWaiting (ask_text len m number i slot)
  unfolding ask_rows ask_text
  text_answered i slot = by (asked_table len m number)
    where
      each : (table : Table) (row : Row) → NotWaiting (text_at m table slot row)
      each table row = found_answered row (page_size m) (slot_text table (row_part (page_size m) m.image row) slot)

      by : (x : Answer Table) → i < rows_written (settle_rows (page_size m) list (and_then x (table_walk len m))).answer → NotWaiting (and_then x (table_text len m i slot))
      by (given table) h =
          on (ltb slot (slot_count table)) (λ s. rw s (settle_answered (text_at m table slot) (each table) list i (table_walk len m table) h)) (λ s. rw s tt)
      by (refused f) h = tt

pub list_reads : EveryList
list_reads len m number list = record { records = records len m number list; texts = texts len m number list }
