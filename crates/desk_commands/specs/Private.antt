-- Definitions that only the contracts of private functions and the proofs cite.
use Rattle.std.specs.Prelude.{◌≡◌, ◌⊎◌, ◌+◌, ◌<◌, ◌≤◌, ℕ, length, take, ⊤, None, Some, IfSome, IfOk, Result}
use Rattle.std.specs.declared.option.Option.{Option}
use Rattle.std.specs.Io.KnownBytes.{Consumes, IsAtEnd}
use Rattle.lists.specs.Alias.{Bytes, Words, Places}
use Rattle.desk_steps.specs.Command.{Command, Input, whole, unknown, cut}
use Rattle.desk_steps.specs.State.{State, state}
use Rattle.intake.specs.declared.Intake.{Intake}
use Rattle.desk_commands.specs.Run.{CommandBytes, after_bytes, Reached}
use Rattle.desk_commands.specs.Reading.{after_reading}

-- the length in the record after a command, which stays at the end
abbrev pub len_next : (len : ℕ) (next : Option Intake) → ℕ
len_next len (Some intake) = intake.len
len_next len None = len

-- what a command leaves whose answer could not be written
pub record LeftAfter (before : State) (bytes : CommandBytes) (image : Bytes) (map : Words) (list : Places) : Type 0 where
  -- the length in the record after it
  pub len : ℕ
  pub is : state len image map list ≡ after_bytes before bytes

-- what a turn leaves that could not read its command, or not write its answer
pub record Left (before : State) (image : Bytes) (map : Words) (list : Places) : Type 0 where
  -- the length in the record after it
  pub len : ℕ
  pub reached : Reached before (state len image map list)

-- a command goes on to the next one, and what is no command ends the run
abbrev pub Follows : (next : Option Intake) (input : Input) → Type 0
Follows (Some intake) input = (command : Command) × (input ≡ whole command)
Follows None input = (input ≡ unknown) ⊎ (input ≡ cut)

-- Of known bytes some are left that lead from this state where all of them led from the other, after so many commands.
abbrev pub Leads : (start now : State) (commands : ℕ) (all left : Option Bytes) → Type 0
Leads start now commands None left = ⊤
Leads start now commands (Some xs) None = ⊥
Leads start now commands (Some xs) (Some ys) = (length ys + commands ≤ length xs) × (after_reading start xs ≡ after_reading now ys)

-- Known bytes lead to this state.
abbrev pub LeadsTo : (start end : State) (all : Option Bytes) → Type 0
LeadsTo start end all = IfSome all (λ xs. after_reading start xs ≡ end)

-- what a turn makes of known bytes: it runs a command, or ends the run
abbrev pub Turned : (next : Option Intake) (start now : State) (all left : Option Bytes) → Type 0
Turned (Some intake) start now all left = Leads start now 1 all left
Turned None start now all left = LeadsTo start now all

-- Known bytes are read to the front of a buffer, as many as it takes or as there are.
abbrev pub Fills : {E : Type 0} (all left : Option Bytes) (r : Result ℕ E) (buffer : Bytes) → Type 0
Fills all left r buffer = IfOk r (λ n. Consumes all left (take n buffer) × (n < length buffer → IsAtEnd left))
