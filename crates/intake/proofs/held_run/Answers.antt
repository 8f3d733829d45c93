-- `intake::held_run` meets its contract, in each of its cases (proofs/MissingLoop).
use mathlib.Core.Path.{sym, ◌∙◌}
use Rattle.lists.proofs.Choice.{on}
use Rattle.intake.proofs.MissingLoop.{run_full, run_one, run_none}
use Rattle.intake.proofs.held_run.Goals as goal

pub returns-then-word_at : goal.returns-then-word_at
returns-then-word_at c = run_full _ _ (sym c.word_at.ensures ∙ c.if-word_at.true)

pub returns : goal.returns
returns c =
    on c.has_bit.result
    (λ e. rw (c.from.ensures, e) (run_one _ _ (sym c.has_bit.ensures ∙ e)))
    (λ e. rw (c.from.ensures, e) (run_none _ _ (sym c.has_bit.ensures ∙ e)))
