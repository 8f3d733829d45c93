-- Rules 9.5, 9.7 and 9.8: what each command answers, and the state after it.
-- Rests on the definitions of an opening, a delivery and the question for all rows, which the library's contracts cite.
use Rattle.std.specs.Prelude.{◌≡◌, ℕ, Result}
use Rattle.lists.specs.Alias.{Bytes, Words, Places}
use Rattle.refusal.specs.Answer.{Answer, given, refused, answer_as}
use Rattle.refusal.specs.declared.Refusal.{Refusal}
use Rattle.intake.specs.Memory.{Memory, memory}
use Rattle.intake.specs.Open.{OpenedFile, Opening, opening}
use Rattle.intake.specs.Open as file
use Rattle.intake.specs.Deliver.{Taken, taken, taken_of, Outcome, delivery}
use Rattle.intake.specs.Deliver as verdict
use Rattle.intake.specs.declared.Delivered.{Delivered}
use Rattle.chain.specs.Walk.{Walk}
use Rattle.chain.specs.Walk as walk
use Rattle.chain.specs.Tally.{progress_of}
use Rattle.chain.specs.declared.Walked.{Walked}
use Rattle.export.specs.Rows.{RowsOutcome, ask_rows}
use Rattle.desk_steps.specs.declared.Reply.{Reply}
use Rattle.desk_steps.specs.declared.Reply.TheVariants.{Opened, New, Same, Done, Wait}
use Rattle.desk_steps.specs.declared.Stepped.{Stepped}
use Rattle.desk_steps.specs.Command.{Command, open_file, deliver_block, ask_table}
use Rattle.desk_steps.specs.State.{State, state}

-- Rule 9.8: the numbers of an answer's line.
pub data Line : Type 0 where
  opened : (blocks : ℕ) → Line
  new same : (held : ℕ) → Line
  done : (rows pages : ℕ) → Line
  wait : (page rows pages : ℕ) → Line

-- the rows that it counts
abbrev pub rows_in : Line → ℕ
rows_in (opened blocks) = 0
rows_in (new held) = 0
rows_in (same held) = 0
rows_in (done rows pages) = rows
rows_in (wait page rows pages) = rows

-- the line for each case of the code's enum
abbrev pub line_of : Reply → Line
line_of (Opened blocks) = opened blocks
line_of (New held) = new held
line_of (Same held) = same held
line_of (Done rows pages) = done rows pages
line_of (Wait page rows pages) = wait page rows pages

abbrev pub reply_of : Result Reply Refusal → Answer Line
reply_of r = answer_as line_of r

abbrev pub open_line : Answer OpenedFile → Answer Line
open_line (given (file.opened len blocks)) = given (opened blocks)
open_line (refused f) = refused f

abbrev pub deliver_line : Answer Taken → Answer Line
deliver_line (given (taken verdict.new held)) = given (new held)
deliver_line (given (taken verdict.same held)) = given (same held)
deliver_line (refused f) = refused f

abbrev pub rows_line : Walk ℕ → Answer Line
rows_line (given (walk.full rows pages)) = given (done rows pages)
rows_line (given (walk.waiting page rows pages)) = given (wait page rows pages)
rows_line (refused f) = refused f

-- what the conversions of a delivery's and of a walk's good answer give
abbrev pub DeliveredLine : Delivered → Reply → Type 0
DeliveredLine delivered reply = given (line_of reply) ≡ deliver_line (given (taken_of delivered))

abbrev pub WalkedLine : Walked → Reply → Type 0
WalkedLine walked reply = given (line_of reply) ≡ rows_line (given (progress_of walked))

-- the answer, and the state afterwards
pub record StepOutcome : Type 0 where
  pub answer : Answer Line
  pub after : State

abbrev pub step_outcome : Answer Line → State → StepOutcome
step_outcome answer after = record { answer = answer; after = after }

abbrev pub stepped_of : (r : Stepped) (image : Bytes) (map : Words) (list : Places) → StepOutcome
stepped_of r image map list = step_outcome (reply_of r.reply) (state r.intake.len image map list)

-- Rule 9.7: a refused opening keeps the length of the earlier intake.
abbrev pub len_after : (earlier : ℕ) (answer : Answer OpenedFile) → ℕ
len_after earlier (given (file.opened len blocks)) = len
len_after earlier (refused f) = earlier

abbrev pub state_memory : State → Memory
state_memory s = memory s.image s.map

abbrev pub open_step : State → Opening → StepOutcome
open_step s o = step_outcome (open_line o.answer) (state (len_after s.len o.answer) s.image o.map s.list)

abbrev pub deliver_step : State → Outcome → StepOutcome
deliver_step s o = step_outcome (deliver_line o.answer) (state s.len o.memory.image o.memory.map s.list)

abbrev pub rows_step : State → RowsOutcome → StepOutcome
rows_step s o = step_outcome (rows_line o.answer) (state s.len s.image s.map o.list)

abbrev pub step : (s : State) (command : Command) → StepOutcome
step s (open_file len) = open_step s (opening len s.image s.map)
step s (deliver_block block piece) = deliver_step s (delivery s.len (state_memory s) block piece)
step s (ask_table number) = rows_step s (ask_rows s.len (state_memory s) number s.list)
