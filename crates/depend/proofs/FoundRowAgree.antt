-- Rules 7.6 and 7.7: two images that agree on the relevant bytes of a table have the same record and the same texts of each row found.
--     record_row, text_row     so the two questions for row k are answered alike
-- Rests on the agreement laws of crates `page` and `row`, and on what is known of a row found (export: FoundRow).
use mathlib.Core.Path.{◌≡◌, ap, ◌∙◌}
use Prim.Native.Nat.{ℕ}
use Rattle.lists.specs.Alias.{Bytes, Words}
use Rattle.number.specs.Agree.{Agree}
use Rattle.refusal.specs.Answer.{Answer, given}
use Rattle.table.specs.declared.Table.{Table}
use Rattle.row.specs.Record.{read_record}
use Rattle.row.specs.Bytes.{row_byte}
use Rattle.page.specs.declared.Row.{Row}
use Rattle.page.specs.Found.{no_row}
use Rattle.page.specs.Read.{before_index, page_rows}
use Rattle.intake.specs.Memory.{Memory, memory}
use Rattle.chain.specs.File.{page_part, rows_on}
use Rattle.table_walk.specs.Walk.{page_size, table_walk}
use Rattle.chain.specs.Found.{Found, found}
use Rattle.export.specs.Row.{settle_row, row_part}
use Rattle.export.specs.Record.{record_on, record_at}
use Rattle.export.specs.Text.{text_found, text_on, text_at}
use Rattle.depend.specs.Bytes.{table_byte}
use Rattle.lists.proofs.Each.{each_at}
use Rattle.row.proofs.RowAgree.{record_agree, slot_agree}
use Rattle.page.proofs.PageAgree.{FoundAgree, parts_same}
use Rattle.table_walk.proofs.EachFound.{found_of}
use Rattle.export.proofs.FoundRow.{FoundRow, rows_found}
use Rattle.export.proofs.Questions.{settle_same}
use Rattle.depend.proofs.WalkAgree.{table_size, page_agree, walk_agree}

module _ (len : ℕ) (map : Words) (s t : Bytes) (table : Table) (a : Agree (table_byte len (memory s map) table) s t) where
  abbrev m : Memory
  m = memory s map

  abbrev n : Memory
  n = memory t map

  part_agree : {row : Row} → FoundRow len m table row
      → Agree (row_byte table (row_part (page_size m) s row)) (row_part (page_size m) s row) (row_part (page_size m) t row)
  unfolding row_part rows_on
  part_agree {row} r =
      let size = page_size m in
      let q = row.page in
      let Same = FoundAgree table (before_index (page_part size s q)) (before_index (page_part size t q)) in
      rw r.here at
      (each_at Same (page_rows q (page_part size s q)) r.rank no_row (parts_same q table (page_agree len map s t table a q r.walked) r.header) r.below)

  record_same : {row : Row} → FoundRow len m table row → record_at m table row ≡ record_at n table row
  record_same {row} r =
      ap (λ x. given (found (record_on row.page row.entry x))) (record_agree table r.good (part_agree r))
      ∙ ap (λ (size : ℕ). given (found (record_on row.page row.entry (read_record table (row_part size t row))))) (table_size len map s t table a r.page.first)

  text_same : (slot : ℕ) {row : Row} → FoundRow len m table row → text_at m table slot row ≡ text_at n table slot row
  text_same slot {row} r =
      ap (text_found row (page_size m)) (slot_agree table r.good (part_agree r) slot)
      ∙ ap (λ (size : ℕ). text_on size t table slot row) (table_size len map s t table a r.page.first)

  -- row k is answered alike where each row found is
  module _ (k : ℕ) where
    answer_agree : {A : Type 0} (f g : Row → Answer (Found A)) → ((row : Row) → FoundRow len m table row → f row ≡ g row)
        → settle_row f k (table_walk len m table) ≡ settle_row g k (table_walk len n table)
    answer_agree f g each =
        settle_same f g k (table_walk len m table)
        (found_of (FoundRow len m table) (λ (row : Row). f row ≡ g row) (table_walk len m table) each (rows_found len m table))
        ∙ ap (settle_row g k) (walk_agree len map s t table a)

    pub record_row : settle_row (record_at m table) k (table_walk len m table) ≡ settle_row (record_at n table) k (table_walk len n table)
    record_row = answer_agree (record_at m table) (record_at n table) (λ row r. record_same r)

    pub text_row : (slot : ℕ) → settle_row (text_at m table slot) k (table_walk len m table) ≡ settle_row (text_at n table slot) k (table_walk len n table)
    text_row slot = answer_agree (text_at m table slot) (text_at n table slot) (λ row r. text_same slot r)
