-- `intake::deliver` meets its contract: refusals 1 to 4 first, then the verdict and the count (proofs/Verdict).
use mathlib.Core.Path.{sym}
use Rattle.std.proofs.Common.{rules}
use Rattle.intake.proofs.Verdict.{refused_outcome, counted_outcome}
use Rattle.intake.proofs.deliver.Goals as goal

pub returns-in_err-check : goal.returns-in_err-check
returns-in_err-check c = search (rules, refused_outcome)

pub take_block-requires : goal.take_block-requires
take_block-requires c = sym c.in_ok-check.ensures

pub returns-in_err-verdict : goal.returns-in_err-verdict
returns-in_err-verdict c = search (rules, counted_outcome)

pub returns : goal.returns
returns c = counted_outcome _ _ _ _ c.in_ok-verdict.ensures (rw c.with_count.ensures)
