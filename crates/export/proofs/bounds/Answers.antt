-- `export::bounds` meets its contract: the table asked for chooses the case of `ask_bounds`.
use borrow.Author.Rules.{rules}
use Rattle.std.proofs.lemmas.Result.{err_from_is_err_and}
use Rattle.intake.specs.Memory.{memory_of}
use Rattle.export.specs.Layout.{bounds_in, ask_bounds}
use Rattle.export.proofs.LayoutStart.{once_told}
use Rattle.export.proofs.bounds.Goals as goal

pub returns-in_err-table : goal.returns-in_err-table
unfolding ask_bounds
returns-in_err-table c =
    let passed = err_from_is_err_and c.from_residual.result c.from_residual.ensures.1 in
    rw (passed.1, passed.2, ← c.in_err-table.ensures)

pub returns : goal.returns
unfolding ask_bounds
returns c =
    let a = c.args in
    rw (← c.in_ok-table.ensures)
    (once_told (memory_of a.memory) (λ block. bounds_in a.intake.len block c.in_ok-table.table) _ c.once_held.result c.once_held.ensures (λ x q. search rules))
