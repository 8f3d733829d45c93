-- The question for record k of a table: rules 2.28, 5.21 and 5.34.
use Rattle.std.specs.Prelude.{Result, ℕ}
use Rattle.refusal.specs.declared.Refusal.{Refusal}
use Rattle.refusal.specs.Answer.{Answer, given, and_then, answer_as}
use Rattle.table.specs.declared.Table.{Table}
use Rattle.row.specs.Record.{RowRecord, read_record, record_of}
use Rattle.page.specs.declared.Row.{Row}
use Rattle.intake.specs.Memory.{Memory}
use Rattle.chain.specs.declared.Reply.{Reply}
use Rattle.export.specs.declared.RecordOn as code
use Rattle.table_walk.specs.Asked.{asked_table}
use Rattle.table_walk.specs.Walk.{page_size, table_walk}
use Rattle.chain.specs.Found as found
use Rattle.export.specs.Row.{settle_row, row_part}

-- Rule 5.34: a record with the page and the index entry of its row
pub record RecordOn : Type 0 where
  pub page : ℕ
  pub entry : ℕ
  pub content : RowRecord

abbrev pub record_on : (page entry : ℕ) (content : RowRecord) → RecordOn
record_on page entry content = record { page = page; entry = entry; content = content }

-- the record of a row
abbrev pub record_at : (m : Memory) (table : Table) (row : Row) → Answer (found.Found RecordOn)
record_at m table row = given (found.found (record_on row.page row.entry (read_record table (row_part (page_size m) m.image row))))

abbrev pub table_record : (len : ℕ) (m : Memory) (k : ℕ) (table : Table) → Answer (found.Found RecordOn)
table_record len m k table = settle_row (record_at m table) k (table_walk len m table)

unfoldable pub ask_record : (len : ℕ) (m : Memory) (number k : ℕ) → Answer (found.Found RecordOn)
ask_record len m number k = and_then (asked_table len m number) (table_record len m k)

-- the record that the code's struct stands for
abbrev pub record_on_of : code.RecordOn → RecordOn
record_on_of r = record_on r.page r.entry (record_of r.«record»)

-- what a result of the code stands for
abbrev pub record_reply_of : Result (Reply code.RecordOn) Refusal → Answer (found.Found RecordOn)
record_reply_of = answer_as (found.reply_of record_on_of)
