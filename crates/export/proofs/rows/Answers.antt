-- `export::rows` meets its contract: the table asked for chooses the case of `ask_rows`.
use Rattle.std.proofs.lemmas.Result.{err_from_is_err_and}
use Rattle.intake.specs.Memory.{memory_of}
use Rattle.export.specs.Rows.{ask_rows}
use Rattle.table_walk.proofs.AskedTable.{asked_sound}
use Rattle.export.proofs.rows.Goals as goal

pub returns-in_err-table : goal.returns-in_err-table
unfolding ask_rows
returns-in_err-table c =
    let passed = err_from_is_err_and c.from_residual.result c.from_residual.ensures.1 in
    rw (passed.1, passed.2, ← c.in_err-table.ensures)

pub invariant_of-file : goal.invariant_of-file
invariant_of-file c =
    let a = c.args in
    record { sound = asked_sound a.intake.len (memory_of a.memory) a.number c.in_ok-table.ensures }

pub returns : goal.returns
unfolding ask_rows
returns c = rw (← c.in_ok-table.ensures) c.rows_of.ensures
