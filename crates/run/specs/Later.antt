-- Rules 8.10 to 8.12: what a question keeps of an earlier one in the same run, from the memories at the two questions.
use Rattle.std.specs.Prelude.{◌≡◌, ◌⊎◌, ℕ}
use Rattle.std.proofs.Math.Option.{some}
use Rattle.lists.specs.Alias.{Places}
use Rattle.refusal.specs.declared.Fault.{Fault}
use Rattle.refusal.specs.Fault.{fault}
use Rattle.refusal.specs.Answer.{Answer, given, refused}
use Rattle.intake.specs.Memory.{Memory}
use Rattle.chain.specs.Begins.{Begins}
use Rattle.export.specs.OwnFault.{OwnFault}
use Rattle.export.specs.Rows.{ask_rows}
use Rattle.chain.specs.Found.{Found, found}
use Rattle.export.specs.Record.{RecordOn, ask_record}
use Rattle.export.specs.Text.{TextPlace, ask_text}
use Rattle.run.specs.Call.{Question, answer}
use Rattle.run.specs.Written.{places_written}
use Rattle.run.specs.Refusal.{fault_in_reply, table_asked}

-- refused by a fault of the file's own
pub record RefusedByFile {A : Type 0} (a : Answer A) : Type 0 where
  pub reason : Fault
  pub own : OwnFault reason
  pub refusal : a ≡ refused reason

-- Rule 8.11: the same answer, or a refusal by a fault
abbrev pub StaysAnswered : {A : Type 0} (x : A) (later : Answer (Found A)) → Type 0
StaysAnswered x later = (later ≡ given (found x)) ⊎ RefusedByFile later

pub record Keeps (len : ℕ) (earlier later : Memory) : Type 0 where
  -- Rule 8.10, whatever the two lists
  pub rows : (table : ℕ) (list other places all : Places)
      → places_written (ask_rows len earlier table list) ≡ some places → places_written (ask_rows len later table other) ≡ some all → Begins places all
  -- Rule 8.11
  pub records : (table k : ℕ) (r : RecordOn) → ask_record len earlier table k ≡ given (found r) → StaysAnswered r (ask_record len later table k)
  pub texts : (table k slot : ℕ) (t : TextPlace) → ask_text len earlier table k slot ≡ given (found t)
      → StaysAnswered t (ask_text len later table k slot)
  -- Rule 8.12
  pub faults : (first second : Question) (f : Fault) → table_asked first ≡ table_asked second → fault_in_reply (answer len earlier first) ≡ some f → OwnFault f
      → (fault_in_reply (answer len later second) ≡ some f) ⊎ (fault_in_reply (answer len later second) ≡ some (fault 19 0))
