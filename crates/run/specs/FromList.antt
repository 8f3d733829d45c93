-- Rules 5.32 and 8.15: reading from the list that a question for all rows left answers as the questions for a record and a string do,
-- in the same state and at any later place of a run.
use Rattle.std.specs.Prelude.{◌≡◌, List, ◌++◌, ℕ, ◌<◌}
use Rattle.lists.specs.Alias.{Places}
use Rattle.refusal.specs.Answer.{Answer, given, refused}
use Rattle.intake.specs.Memory.{Memory}
use Rattle.chain.specs.Found.{Found, found, waiting}
use Rattle.export.specs.Rows.{rows_written, ask_rows}
use Rattle.export.specs.Record.{ask_record}
use Rattle.export.specs.Text.{ask_text}
use Rattle.export.specs.FromList.{ask_record_in, ask_text_in}
use Rattle.run.specs.Call.{Call}
use Rattle.run.specs.Run.{Opens, run_memory}

-- what is read in the second state from the list that a question for all rows left in the first is what the questions answer in the first:
-- element i is row i, for each row written
pub record ReadsAsAsked (len : ℕ) (asked read : Memory) (table : ℕ) (list : Places) : Type 0 where
  pub records : (i : ℕ) → i < rows_written (ask_rows len asked table list).answer
      → ask_record_in len read table (ask_rows len asked table list).list i ≡ ask_record len asked table i
  pub texts : (i slot : ℕ) → i < rows_written (ask_rows len asked table list).answer
      → ask_text_in len read table (ask_rows len asked table list).list i slot ≡ ask_text len asked table i slot

-- Rule 5.32, in one state
abbrev pub EveryList : Type 0
EveryList = (len : ℕ) (m : Memory) (table : ℕ) (list : Places) → ReadsAsAsked len m m table list

-- an answer that does not wait
abbrev pub NotWaiting : {A : Type 0} → Answer (Found A) → Type 0
NotWaiting (given (found x)) = Unit {0}
NotWaiting (given (waiting page rows pages)) = ⊥
NotWaiting (refused f) = Unit {0}

-- Rule 8.15: at any later place of a run, whatever was read from any list without waiting is read again, refusals too; so what all rows
-- left goes on to be read as it was asked
pub record KeepsLists (len : ℕ) (earlier later : Memory) : Type 0 where
  pub records : (table : ℕ) (list : Places) (i : ℕ) → NotWaiting (ask_record_in len earlier table list i)
      → ask_record_in len later table list i ≡ ask_record_in len earlier table list i
  pub texts : (table : ℕ) (list : Places) (i slot : ℕ) → NotWaiting (ask_text_in len earlier table list i slot)
      → ask_text_in len later table list i slot ≡ ask_text_in len earlier table list i slot
  pub rows : (table : ℕ) (list : Places) → ReadsAsAsked len earlier later table list

abbrev pub EveryRunKeepsLists : Type 0
EveryRunKeepsLists = (len : ℕ) (before : Memory) → Opens len before → (calls later : List Call)
    → KeepsLists len (run_memory len before calls) (run_memory len before (calls ++ later))
