-- `intake::open` meets its contract: refused as the check says, else the words in use are cleared (proofs/OpenClears).
use mathlib.Core.Path.{sym}
use lib.Seq.{length-take-le}
use Rattle.std.proofs.Common.{rules}
use Rattle.intake.proofs.OpenClears.{words_inside, open_refused, open_given}
use Rattle.intake.proofs.open.Goals as goal

pub returns-in_err-check_lengths : goal.returns-in_err-check_lengths
returns-in_err-check_lengths c = search (rules, open_refused)

pub slice_bounds-fill-end : goal.slice_bounds-fill-end
slice_bounds-fill-end c = words_inside _ _ _ (sym c.in_ok-check_lengths.ensures) c.word_count.ensures

pub slice_bounds-fill-end-2 : goal.slice_bounds-fill-end-2
slice_bounds-fill-end-2 c = sym (length-take-le _ _ (words_inside _ _ _ (sym c.in_ok-check_lengths.ensures) c.word_count.ensures))

pub returns : goal.returns
returns c =
    open_given _ _ _ (sym c.in_ok-check_lengths.ensures) c.new.ensures c.block_count.ensures c.word_count.ensures (c.fill.ensures.after (λ _ e. e))
