-- Rules 9.5, 9.7 and 9.9: what the desk program leaves of an input whose bytes are known.
use Rattle.std.specs.Prelude.{◌≡◌, [], ◌∷◌, ℕ, zero, suc, length, take, drop}
use Rattle.lists.specs.Alias.{Bytes, Words, Places}
use Rattle.desk_steps.specs.Command.{Input, whole, unknown, cut, body_size, decoded}
use Rattle.desk_steps.specs.State.{State, state}
use Rattle.desk_steps.specs.Step.{step}

-- Rule 9.9: what follows a command is run after it, and what is no command ends the run.
abbrev pub then_later : (first : Input) (s : State) (later : State → State) → State
then_later (whole command) s later = later (step s command).after
then_later unknown s later = s
then_later cut s later = s

-- Rule 9.5: a kind, as much of its body as there is, and the next command behind it; of the commands at most so many.
unfoldable pub after_some : (most : ℕ) (s : State) (input : Bytes) → State
after_some zero s input = s
after_some (suc most) s [] = s
after_some (suc most) s (kind ∷ rest) =
    then_later (decoded kind (take (body_size kind) rest)) s (λ (t : State). after_some most t (drop (body_size kind) rest))

-- all of them: each takes a byte at least
abbrev pub after_reading : State → Bytes → State
after_reading s input = after_some (length input) s input

-- Rule 9.7: what a run leaves of an input, from L = 0 before any opening.
pub record RanAll (input : Bytes) (before after : Bytes) (map_before map_after : Words) (list_before list_after : Places) : Type 0 where
  -- the length in the record at the end
  pub len : ℕ
  pub is : state len after map_after list_after ≡ after_reading (state 0 before map_before list_before) input
