-- Definitions that only the contracts of private functions and the proofs cite.
use Rattle.std.specs.Prelude.{◌≡◌, cond, Result, Ok, Err, ℕ}
use Rattle.lists.specs.Alias.{Bytes}
use Rattle.refusal.specs.Fault.{fault}
use Rattle.refusal.specs.declared.Refusal.{Refusal}
use Rattle.refusal.specs.Answer.{Answer, given, refused, answer_as}
use Rattle.table.specs.declared.Table.{Table}
use Rattle.row.specs.Record.{read_record}
use Rattle.lists.specs.Nth.{Nth, element, past}
use Rattle.chain.specs.declared.Reply.{Reply}
use Rattle.chain.specs.declared.Reply.TheVariants as reply
use Rattle.bitmap.specs.Bit.{bit}
use Rattle.intake.specs.Memory.{Memory}
use Rattle.export.specs.declared.SizedRow.{SizedRow}
use Rattle.chain.specs.Found as found
use Rattle.page.specs.declared.Row.{Row}
use Rattle.export.specs.Row.{row_part}
use Rattle.export.specs.Record.{RecordOn, record_on}

-- a row, and the size of its page
abbrev pub sized_row : (size : ℕ) (row : Row) → SizedRow
sized_row size row = record { row = row; size = size }

-- the answer for a row that is asked for
abbrev pub row_at : (size : ℕ) (row : Row) → Answer (found.Found SizedRow)
row_at size row = given (found.found (sized_row size row))

-- row k that was counted is found; 18 where it was not
abbrev pub at_row : ℕ → Nth Row → Answer (found.Found SizedRow)
at_row size (element row) = row_at size row
at_row size (past rows) = refused (fault 18 0)

-- what a result of the code stands for
abbrev pub row_reply_of : Result (Reply SizedRow) Refusal → Answer (found.Found SizedRow)
row_reply_of = answer_as (found.reply_of (λ (at : SizedRow). at))

-- the record of a row whose page has this size
abbrev pub record_in : (table : Table) (image : Bytes) (at : SizedRow) → Answer (found.Found RecordOn)
record_in table image at =
    given (found.found (record_on at.row.page at.row.entry (read_record table (row_part at.size image at.row))))

-- a good result as a reply that found it
abbrev pub found_result : {A : Type 0} → Result A Refusal → Result (Reply A) Refusal
found_result (Ok x) = Ok (reply.Found x)
found_result (Err refusal) = Err refusal

-- what is answered once block 0 is held, where told relates block 0 to its answers
abbrev pub OnceHeld : {A : Type 0} (m : Memory) (told : Result A Refusal → Type 0) → Result (Reply A) Refusal → Type 0
OnceHeld {A} m told r = cond (bit m.map 0) ((answer : Result A Refusal) × told answer × (r ≡ found_result answer)) (r ≡ Ok (reply.Waiting 0 0 0))
