-- `desk_commands::run`: at each turn some commands have led from the start to the state, as many of known bytes as turns.
use Rattle.desk_steps.specs.State.{state}
use Rattle.desk_commands.specs.Run.{Reached}
use Rattle.desk_commands.specs.Private.{Leads}
use Rattle.desk_commands.proofs.run.Given as goal

abbrev pub invariant-loop : goal.invariant-loop
invariant-loop g l =
    Reached (state 0 l.initial.image l.initial.map l.initial.list) (state l.intake.len l.image l.map l.list)
    × Leads (state 0 l.initial.image l.initial.map l.initial.list) (state l.intake.len l.image l.map l.list) l.counter
    (g.R.Read.remaining l.initial.input) (g.R.Read.remaining l.input)
