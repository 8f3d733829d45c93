-- Reading from a list of places: the record, or a string, of the row that element i of the list names. Rules 5.27 to 5.31.
-- Rests on `listed_row` of crate `listed`.
use Rattle.std.specs.Prelude.{cond, not, ℕ, ◌/◌}
use Rattle.lists.specs.Alias.{Places}
use Rattle.refusal.specs.Fault.{fault}
use Rattle.refusal.specs.Answer.{Answer, given, refuse_if, and_then}
use Rattle.table.specs.declared.Table.{Table}
use Rattle.page.specs.declared.Row.{Row}
use Rattle.bitmap.specs.Bit.{bit}
use Rattle.intake.specs.Memory.{Memory, block_at}
use Rattle.directory.specs.Header.{header_holds}
use Rattle.chain.specs.Found.{Found, waiting, then_found}
use Rattle.listed.specs.Listed.{listed_row}
use Rattle.table_walk.specs.Asked.{asked_table, with_slot}
use Rattle.table_walk.specs.Walk.{page_size}
use Rattle.export.specs.Record.{RecordOn, record_at}
use Rattle.export.specs.Text.{TextPlace, text_at}

-- Rule 5.28: block 0, then the file header (9), then the element; the row
unfoldable pub table_listed : (len : ℕ) (m : Memory) (list : Places) (i : ℕ) (table : Table) → Answer (Found Row)
table_listed len m list i table =
    cond (not (bit m.map 0)) (given (waiting 0 0 0))
    (refuse_if (not (header_holds len (block_at m.image 0))) (fault 9 0)
    (listed_row (page_size m) (len / page_size m) table m.image m.map list i))

abbrev pub record_listed : (len : ℕ) (m : Memory) (list : Places) (i : ℕ) (table : Table) → Answer (Found RecordOn)
record_listed len m list i table = then_found (table_listed len m list i table) (record_at m table)

unfoldable pub ask_record_in : (len : ℕ) (m : Memory) (number : ℕ) (list : Places) (i : ℕ) → Answer (Found RecordOn)
ask_record_in len m number list i = and_then (asked_table len m number) (record_listed len m list i)

abbrev pub text_listed : (len : ℕ) (m : Memory) (list : Places) (i slot : ℕ) (table : Table) → Answer (Found TextPlace)
text_listed len m list i slot table = with_slot slot table (then_found (table_listed len m list i table) (text_at m table slot))

unfoldable pub ask_text_in : (len : ℕ) (m : Memory) (number : ℕ) (list : Places) (i slot : ℕ) → Answer (Found TextPlace)
ask_text_in len m number list i slot = and_then (asked_table len m number) (text_listed len m list i slot)
