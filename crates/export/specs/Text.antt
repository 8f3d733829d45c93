-- The question for a string slot of record k of a table: rules 2.28, 5.22, 5.25 and 5.26.
use Rattle.std.specs.Prelude.{Result, ℕ, ◌+◌}
use Rattle.lists.specs.Alias.{Bytes}
use Rattle.refusal.specs.declared.Refusal.{Refusal}
use Rattle.refusal.specs.Answer.{Answer, given, and_then, answer_as}
use Rattle.text.specs.declared.Encoding.{Encoding}
use Rattle.text.specs.declared.Text.{Text}
use Rattle.text.specs.Text.{TextAt}
use Rattle.table.specs.declared.Table.{Table}
use Rattle.row.specs.Slot.{slot_text}
use Rattle.page.specs.declared.Row.{Row}
use Rattle.page.specs.Found.{place_of}
use Rattle.page.specs.Read.{on_row}
use Rattle.intake.specs.Memory.{Memory}
use Rattle.chain.specs.declared.Reply.{Reply}
use Rattle.table_walk.specs.Asked.{asked_table, with_slot}
use Rattle.table_walk.specs.Walk.{page_size, table_walk}
use Rattle.chain.specs.Found as found
use Rattle.export.specs.Row.{settle_row, row_part}

-- Rule 5.22: as `TextAt` (crate `text`), but its place counts from the start of the file
pub record TextPlace : Type 0 where
  pub place : ℕ
  pub len : ℕ
  pub encoding : Encoding

abbrev pub text_place : (place len : ℕ) (encoding : Encoding) → TextPlace
text_place place len encoding = record { place = place; len = len; encoding = encoding }

-- Rule 5.26: the text of a row, where it is read from the row; 15 carries the row's page and entry.
-- A row that was found has no malformed string (proofs/FoundRow, `row_text`).
abbrev pub text_found : (row : Row) (size : ℕ) (text : Answer TextAt) → Answer (found.Found TextPlace)
text_found row size text =
    and_then (on_row row text) (λ t. given (found.found (text_place (place_of size row + t.place) t.len t.encoding)))

-- the text of a slot of a row, where pages have size bytes
abbrev pub text_on : (size : ℕ) (image : Bytes) (table : Table) (slot : ℕ) (row : Row) → Answer (found.Found TextPlace)
text_on size image table slot row = text_found row size (slot_text table (row_part size image row) slot)

abbrev pub text_at : (m : Memory) (table : Table) (slot : ℕ) (row : Row) → Answer (found.Found TextPlace)
text_at m table slot row = text_on (page_size m) m.image table slot row

-- Rules 2.28, 5.25: 19 comes before the walk
abbrev pub table_text : (len : ℕ) (m : Memory) (k slot : ℕ) (table : Table) → Answer (found.Found TextPlace)
table_text len m k slot table = with_slot slot table (settle_row (text_at m table slot) k (table_walk len m table))

unfoldable pub ask_text : (len : ℕ) (m : Memory) (number k slot : ℕ) → Answer (found.Found TextPlace)
ask_text len m number k slot = and_then (asked_table len m number) (table_text len m k slot)

-- the text that the code's struct stands for, where its place counts from the start of the file
abbrev pub text_place_of : Text → TextPlace
text_place_of text = text_place text.place text.len text.encoding

-- what a result of the code stands for
abbrev pub text_reply_of : Result (Reply Text) Refusal → Answer (found.Found TextPlace)
text_reply_of = answer_as (found.reply_of text_place_of)
