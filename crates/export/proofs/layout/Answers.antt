-- `export::layout` meets its contract: the check's verdict says whether `check_call` goes on to block 0.
use mathlib.Core.Path.{sym, ◌∙◌}
use borrow.Author.Rules.{rules}
use Rattle.std.proofs.lemmas.Result.{err_from_is_err_and}
use Rattle.intake.specs.Memory.{memory_of}
use Rattle.intake.proofs.RulesPassed.{call_refused, call_passes}
use Rattle.export.specs.Layout.{layout_in, ask_layout}
use Rattle.export.proofs.LayoutStart.{once_told}
use Rattle.export.proofs.layout.Goals as goal

pub returns-in_err-check : goal.returns-in_err-check
unfolding ask_layout
returns-in_err-check c =
    let a = c.args in
    let passed = err_from_is_err_and c.from_residual.result c.from_residual.ensures.1 in
    rw (passed.1, passed.2) (sym (call_refused a.intake.len (memory_of a.memory) (sym c.in_err-check.ensures) _))

pub returns : goal.returns
unfolding ask_layout
returns c =
    let a = c.args in
    let m = memory_of a.memory in
    once_told m (layout_in a.intake.len) _ c.once_held.result c.once_held.ensures (λ x q. search rules)
    ∙ sym (call_passes a.intake.len m (sym c.in_ok-check.ensures) _)
