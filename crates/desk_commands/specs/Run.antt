-- Rules 9.5, 9.7 and 9.9: the desk program's state after the commands that it read, and what can be said of a run.
-- What can be said of a run where nothing is known of the bytes that its reader gives; where they are known, specs/Reading says it.
use Rattle.std.specs.Prelude.{◌≡◌, List, [], ◌∷◌, ℕ}
use Rattle.lists.specs.Alias.{Bytes, Words, Places}
use Rattle.desk_steps.specs.Command.{Input, whole, unknown, cut, decoded}
use Rattle.desk_steps.specs.State.{State, state}
use Rattle.desk_steps.specs.Step.{step}

-- the bytes of a command: its kind, and as much of its body as there is
pub record CommandBytes : Type 0 where
  pub kind : ℕ
  pub body : Bytes

abbrev pub command_bytes : (kind : ℕ) (body : Bytes) → CommandBytes
command_bytes kind body = record { kind = kind; body = body }

-- Rule 9.9: what is no command changes nothing.
abbrev pub after_input : State → Input → State
after_input s (whole command) = (step s command).after
after_input s unknown = s
after_input s cut = s

abbrev pub after_bytes : State → CommandBytes → State
after_bytes s bytes = after_input s (decoded bytes.kind bytes.body)

-- one command after the other
unfoldable pub after_all : State → List CommandBytes → State
after_all s [] = s
after_all s (bytes ∷ later) = after_all (after_bytes s bytes) later

-- some commands lead from one state to the other
pub record Reached (before after : State) : Type 0 where
  pub commands : List CommandBytes
  pub reached : after_all before commands ≡ after

-- Rule 9.7: what a run leaves, from L = 0 before any opening.
pub record Ran (before after : Bytes) (map_before map_after : Words) (list_before list_after : Places) : Type 0 where
  -- the length in the record at the end
  pub len : ℕ
  pub reached : Reached (state 0 before map_before list_before) (state len after map_after list_after)
