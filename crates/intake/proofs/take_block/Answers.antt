-- `intake::take_block` meets its contract: only New stores, and then the block lies inside the image (proofs/Verdict).
use mathlib.Core.Path.{sym}
use Rattle.intake.proofs.Verdict.{block_inside, word_inside, passed}
use Rattle.intake.proofs.take_block.Goals as goal

pub store-requires : goal.store-requires
store-requires c =
    let p = passed _ _ _ _ (sym c.in_ok-judge_block.ensures) in
    (p.sized, block_inside _ _ _ p.sound p.inside, word_inside _ _ _ p.sound p.inside)
