-- `desk_commands::answer` meets its contract where the answer is not written: the command is run, or nothing changes (proofs/AfterBytes).
use Rattle.desk_steps.specs.State.{state}
use Rattle.desk_commands.specs.Run.{command_bytes}
use Rattle.desk_commands.proofs.AfterBytes.{after_whole, after_none, left_after}
use Rattle.desk_commands.proofs.answer.Goals as goal

pub returns-in_err-say_reply-in-Ok-clause-err : goal.returns-in_err-say_reply-in-Ok-clause-err
returns-in_err-say_reply-in-Ok-clause-err g c =
    let s = state c.args.intake.len c.args.image.now c.args.map.now c.args.list.now in
    left_after s (command_bytes c.args.kind c.args.body.now) _
    (after_whole s c.args.kind c.args.body.now c.in-Ok.command c.in-Ok.ensures c.step-stepped.result c.step-stepped.ensures)

pub returns-in_err-write-in-Err-clause-err : goal.returns-in_err-write-in-Err-clause-err
returns-in_err-write-in-Err-clause-err g c =
    let s = state c.args.intake.len c.args.image.now c.args.map.now c.args.list.now in
    left_after s (command_bytes c.args.kind c.args.body.now) _ (after_none s c.args.kind c.args.body.now c.in-Err.error c.in-Err.ensures)
