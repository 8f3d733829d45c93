-- The question for all rows: the answer, and the list afterwards. Rules 2.22, 2.28, 4.10 and 5.20.
use Rattle.std.specs.Prelude.{Result, [], ℕ, length, ltb}
use Rattle.lists.specs.Alias.{Places}
use Rattle.refusal.specs.Fault.{fault}
use Rattle.refusal.specs.declared.Refusal.{Refusal}
use Rattle.refusal.specs.Answer.{given, refused, refuse_if, and_then}
use Rattle.lists.specs.Write.{written}
use Rattle.page.specs.Found.{Rows, places}
use Rattle.intake.specs.Memory.{Memory}
use Rattle.chain.specs.declared.Walked.{Walked}
use Rattle.chain.specs.Walk.{Walk, full, waiting}
use Rattle.chain.specs.Tally.{rows_counted, tally, walked_of}
use Rattle.table_walk.specs.Asked.{asked_table}
use Rattle.table_walk.specs.Walk.{page_size, table_walk}

pub record RowsOutcome : Type 0 where
  pub answer : Walk ℕ
  pub list : Places

abbrev pub rows_outcome : Walk ℕ → Places → RowsOutcome
rows_outcome answer list = record { answer = answer; list = list }

-- the number of rows written to the list
abbrev pub rows_written : Walk ℕ → ℕ
rows_written (given progress) = rows_counted progress
rows_written (refused f) = 0

-- the rows found
abbrev pub rows_found : Walk Rows → Rows
rows_found (given (full rows pages)) = rows
rows_found (given (waiting page rows pages)) = rows
rows_found (refused f) = []

-- Rule 5.20: 17 comes behind the walk's own refusals
abbrev pub rows_answer : Places → Walk Rows → Walk ℕ
rows_answer list walk =
    and_then (tally walk) (λ progress.
    refuse_if (ltb (length list) (rows_counted progress)) (fault 17 (rows_counted progress))
    (given progress))

-- Rules 2.22 and 4.10: the rows' places are written, where pages have size bytes; a refusal leaves the list
abbrev pub list_after : (size : ℕ) (list : Places) (walk : Walk Rows) (answer : Walk ℕ) → Places
list_after size list walk (given progress) = written list (places size (rows_found walk))
list_after size list walk (refused f) = list

abbrev pub settle_rows : (size : ℕ) → Places → Walk Rows → RowsOutcome
settle_rows size list walk = rows_outcome (rows_answer list walk) (list_after size list walk (rows_answer list walk))

unfoldable pub ask_rows : (len : ℕ) (m : Memory) (number : ℕ) (list : Places) → RowsOutcome
ask_rows len m number list = settle_rows (page_size m) list (and_then (asked_table len m number) (table_walk len m))

-- what a result of the code stands for, and the list afterwards
abbrev pub rows_of : Result Walked Refusal → Places → RowsOutcome
rows_of r list = rows_outcome (walked_of r) list
