-- The table that a question asks for: 1 to 4, 8, and for a string 19, before the file is looked at. Rules 2.28 and 2.30.
-- Rests on the intake's `check_call` and on the table's `table_of`.
use Rattle.std.specs.Prelude.{not, ℕ, ltb}
use Rattle.refusal.specs.Fault.{fault}
use Rattle.refusal.specs.Answer.{Answer, given, refuse_if, and_then}
use Rattle.table.specs.declared.Table.{Table}
use Rattle.table.specs.Table.{table_of, slot_count}
use Rattle.intake.specs.Memory.{Memory}
use Rattle.intake.specs.Check.{check_call}

unfoldable pub asked_table : (len : ℕ) (m : Memory) (number : ℕ) → Answer Table
asked_table len m number = check_call len m (table_of number)

-- Rule 5.25; `rest` is what answers where the table has the slot
abbrev pub with_slot : {A : Type 0} (slot : ℕ) (table : Table) (rest : Answer A) → Answer A
with_slot slot table rest = refuse_if (not (ltb slot (slot_count table))) (fault 19 0) rest

abbrev pub asked_slot : (len : ℕ) (m : Memory) (number slot : ℕ) → Answer Table
asked_slot len m number slot = and_then (asked_table len m number) (λ table. with_slot slot table (given table))
