-- `page::read_row` meets its contract: what the tests of the page leave says what answers (proofs/PageTests).
use mathlib.Core.Path.{◌∙◌}
use Rattle.std.proofs.lemmas.Result.{err_from_is_err_and}
use Rattle.page.proofs.PageTests.{index_told, ranked_row, no-row, row_refused}
use Rattle.page.proofs.read_row.Goals as goal

pub returns-in_err-index : goal.returns-in_err-index
returns-in_err-index c =
    let e = err_from_is_err_and c.from_residual.result c.from_residual.ensures.1 in
    rw (e.1, e.2) (row_refused _ _ _ c.test_page.ensures _ _ c.in_err-index.was)

pub returns-in-Some : goal.returns-in-Some
returns-in-Some c =
    let index = index_told _ _ _ c.test_page.ensures (rw c.in-Some.is at c.in_ok-index.was) in
    c.judge_found.ensures ∙ rw c.before-in-Some.ensures (ranked_row _ _ _ _ _ index c.find_row-found.ensures.0)

pub returns-in-None : goal.returns-in-None
returns-in-None c = no-row _ _ _ c.test_page.ensures _ _ (rw c.in-None.is at c.in_ok-index.was)
