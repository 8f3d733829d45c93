-- `listed::find` meets its contract: the tests that led to each return say which rung of `listed_row` answers (proofs/ListedRungs).
use mathlib.Core.Path.{refl, ap, ◌∙◌}
use Prim.Native.Nat.{ℕ, ◌<◌, min}
use native.Mathlib.Omega.{arith}
use lib.ListN.{get_or}
use Rattle.std.proofs.lemmas.Result.{err_from_is_err_and}
use Rattle.listed.specs.Rank.{run_before}
use Rattle.listed.proofs.SamePage.{first_whole, first_page}
use Rattle.listed.proofs.ListedRungs.{past_list, no_page, no_size, page_missing, row_read}
use Rattle.listed.proofs.find.Goals as goal

pub returns-then-list-i : goal.returns-then-list-i
returns-then-list-i c = past_list _ _ _ _ _ _ _ c.if-list-i.true

pub returns-then-size-eq0 : goal.returns-then-size-eq0
returns-then-size-eq0 c =
    let a = c.args in
    no_page a.size a.page_count _ _ _ a.list.now a.i c.if-list-i.false (no_size a.size a.page_count a.list.now a.i c.if-size-eq0.true) refl

pub returns-then-not-linkable : goal.returns-then-not-linkable
returns-then-not-linkable c = no_page _ _ _ _ _ _ _ c.if-list-i.false c.linkable.ensures c.if-not-linkable.true

pub returns-then-not-is_held : goal.returns-then-not-is_held
returns-then-not-is_held c =
    rw c.waiting.ensures
    (page_missing _ _ _ _ _ _ _ c.if-list-i.false c.linkable.ensures c.if-not-linkable.false c.is_held.ensures c.if-not-is_held.true)

pub run_before-rank-requires : goal.run_before-rank-requires
run_before-rank-requires c =
    let a = c.args in
    let some : 0 < a.size = omega (arith, c.if-size-eq0.false) in
    (omega (arith, c.if-list-i.false), (some, first_whole (get_or a.list.now a.i 0) a.size some))

pub returns-in_err-row : goal.returns-in_err-row
returns-in_err-row c =
    let a = c.args in
    let some : 0 < a.size = omega (arith, c.if-size-eq0.false) in
    let place = get_or a.list.now a.i 0 in
    let count = c.run_before-rank.ensures ∙ ap (λ (page : ℕ). min a.size (run_before a.size a.list.now page a.i)) (first_page place a.size some) in
    let passed = err_from_is_err_and c.from_residual.result c.from_residual.ensures.1 in
    row_read _ _ _ _ _ _ _ c.if-list-i.false c.linkable.ensures c.if-not-linkable.false c.is_held.ensures
    c.if-not-is_held.false count (rw (passed.1, passed.2, ← c.part-bytes.ensures, ← c.in_err-row.ensures))

pub returns : goal.returns
returns c =
    let a = c.args in
    let some : 0 < a.size = omega (arith, c.if-size-eq0.false) in
    let place = get_or a.list.now a.i 0 in
    let count = c.run_before-rank.ensures ∙ ap (λ (page : ℕ). min a.size (run_before a.size a.list.now page a.i)) (first_page place a.size some) in
    row_read _ _ _ _ _ _ _ c.if-list-i.false c.linkable.ensures c.if-not-linkable.false c.is_held.ensures
    c.if-not-is_held.false count (rw (← c.part-bytes.ensures, ← c.in_ok-row.ensures))
