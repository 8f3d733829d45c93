-- Rules 9.5 and 9.9: the desk program's commands, and what a kind byte and the bytes behind it say.
-- Rests on the numbers of rule 1.2 and the size of a block.
use Rattle.std.specs.Prelude.{cond, ℕ, ◌+◌, length, drop, eqb, ltb, Result, Ok, Err}
use Rattle.lists.specs.Alias.{Bytes}
use Rattle.number.specs.Number.{byte_at, le32}
use Rattle.format.specs.Size.{block_size}
use Rattle.desk_steps.specs.declared.Command.{Command as CodeCommand}
use Rattle.desk_steps.specs.declared.Command.TheVariants.{Open, Deliver, Ask}
use Rattle.desk_steps.specs.declared.DecodeError.{DecodeError}
use Rattle.desk_steps.specs.declared.DecodeError.TheVariants.{Unknown, Cut}

pub data Command : Type 0 where
  open_file : (len : ℕ) → Command
  deliver_block : (block : ℕ) (piece : Bytes) → Command
  ask_table : (number : ℕ) → Command

-- a command, a kind that there is not, or a body that is too short
pub data Input : Type 0 where
  whole : Command → Input
  unknown : Input
  cut : Input

-- bytes of a number in a body
abbrev pub number_size : ℕ
number_size = 4

-- Rule 9.5: the bytes of a body; 0 for a kind that there is not.
unfoldable pub body_size : (kind : ℕ) → ℕ
body_size kind =
    cond (eqb kind 1) number_size
    (cond (eqb kind 2) (number_size + block_size)
    (cond (eqb kind 3) 1
    0))

-- Rules 9.5 and 9.9: what a kind and the bytes of its body say.
unfoldable pub decoded : (kind : ℕ) (body : Bytes) → Input
decoded kind body =
    cond (ltb (length body) (body_size kind)) cut
    (cond (eqb kind 1) (whole (open_file (le32 body 0)))
    (cond (eqb kind 2) (whole (deliver_block (le32 body 0) (drop number_size body)))
    (cond (eqb kind 3) (whole (ask_table (byte_at body 0)))
    unknown)))

-- the command for each case of the code's enum: a delivery's piece stands in the body
abbrev pub command_of : CodeCommand → Bytes → Command
command_of (Open len) body = open_file len
command_of (Deliver block) body = deliver_block block (drop number_size body)
command_of (Ask number) body = ask_table number

abbrev pub decoded_of : Result CodeCommand DecodeError → Bytes → Input
decoded_of (Ok command) body = whole (command_of command body)
decoded_of (Err Unknown) body = unknown
decoded_of (Err Cut) body = cut
