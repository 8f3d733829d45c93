-- `waveform::entry` meets its contract: the answer is that of the sort, or that of an absent one (proofs/SectionAsked).
use mathlib.Core.Path.{◌∙◌}
use Rattle.waveform.proofs.SectionAsked.{ask-known, ask-absent}
use Rattle.waveform.proofs.entry.Goals as goal

pub returns-in-Ok : goal.returns-in-Ok
returns-in-Ok c = c.entry.ensures ∙ ask-known _ _ _ (rw c.in-Ok.is at c.try_from.ensures)

pub returns-in-Err : goal.returns-in-Err
returns-in-Err c = c.absent_sort.ensures ∙ ask-absent _ _ _ (rw c.in-Err.is at c.try_from.ensures)
