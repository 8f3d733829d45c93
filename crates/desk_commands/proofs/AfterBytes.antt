-- Rules 9.7 and 9.9: the state after the bytes of a command (specs/Run), from what `desk_steps::decode` and `desk_steps::step` ensure.
use mathlib.Core.Path.{◌≡◌, ap}
use Prim.Native.Nat.{ℕ}
use Rattle.std.proofs.Common.{Result, Ok, Err, OnErr}
use Rattle.lists.specs.Alias.{Bytes, Words, Places}
use Rattle.desk_steps.specs.declared.Command.{Command}
use Rattle.desk_steps.specs.declared.DecodeError.{DecodeError}
use Rattle.desk_steps.specs.declared.DecodeError.TheVariants.{Unknown, Cut}
use Rattle.desk_steps.specs.declared.Stepped.{Stepped}
use Rattle.desk_steps.specs.Command.{command_of, decoded_of, decoded}
use Rattle.desk_steps.specs.State.{State, state}
use Rattle.desk_steps.specs.Step.{StepOutcome, step, stepped_of}
use Rattle.desk_commands.specs.Run.{CommandBytes, command_bytes, after_bytes}
use Rattle.desk_commands.specs.Private.{LeftAfter}

module _ (s : State) (kind : ℕ) (body : Bytes) where
  pub after_whole : (command : Command) → decoded_of (Ok command) body ≡ decoded kind body
      → (stepped : Stepped) {image : Bytes} {map : Words} {list : Places} → stepped_of stepped image map list ≡ step s (command_of command body)
      → state stepped.intake.len image map list ≡ after_bytes s (command_bytes kind body)
  after_whole command e stepped h = rw (← e) (ap (λ (o : StepOutcome). o.after) h)

  pub after_none : (error : DecodeError) → decoded_of (Err error) body ≡ decoded kind body → s ≡ after_bytes s (command_bytes kind body)
  after_none Unknown e = rw (← e)
  after_none Cut e = rw (← e)

-- what a command leaves whose answer ends in an error
pub left_after : {A E : Type 0} (s : State) (bytes : CommandBytes) {len : ℕ} {image : Bytes} {map : Words} {list : Places} (r : Result A E)
    → state len image map list ≡ after_bytes s bytes → OnErr r (LeftAfter s bytes image map list)
left_after s bytes (Ok _) e = tt
left_after s bytes {len = len} (Err _) e = record { len = len; is = e }
