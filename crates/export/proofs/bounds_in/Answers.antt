-- `export::bounds_in` meets its contract: the header and the chain choose the case (proofs/LayoutStart).
use mathlib.Core.Path.{sym, ◌∙◌}
use Rattle.std.proofs.lemmas.Result.{err_from_is_err_and}
use Rattle.export.proofs.LayoutStart.{bounds_broken, bounds_refused, bounds_read}
use Rattle.export.proofs.bounds_in.Goals as goal

pub returns-in_err-directory : goal.returns-in_err-directory
returns-in_err-directory c =
    let a = c.args in
    let passed = err_from_is_err_and c.from_residual.result c.from_residual.ensures.1 in
    rw (passed.1, passed.2) (bounds_broken a.len a.block.now a.table c.read.ensures (sym c.ok_or.ensures.value ∙ c.in_err-directory.was))

pub returns-in_err-chain : goal.returns-in_err-chain
returns-in_err-chain c =
    let a = c.args in
    let passed = err_from_is_err_and c.from_residual-in_err-chain.result c.from_residual-in_err-chain.ensures.1 in
    rw (passed.1, passed.2)
    (bounds_refused a.len a.block.now a.table c.read.ensures (sym c.ok_or.ensures.value ∙ c.in_ok-directory.was) c.in_err-chain.ensures)

pub returns : goal.returns
returns c =
    let a = c.args in
    bounds_read a.len a.block.now a.table c.read.ensures (sym c.ok_or.ensures.value ∙ c.in_ok-directory.was) c.in_ok-chain.ensures
