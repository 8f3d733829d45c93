-- `chain::part` meets its contract: its part of the image is the page's (proofs/PagePart).
use Rattle.std.proofs.Common.{◌∙◌}
use Rattle.chain.proofs.PagePart.{part_whole}
use Rattle.chain.proofs.part.Goals as goal

pub returns : goal.returns
returns c = c.subslice.ensures ∙ part_whole _ _ _ c.new-page.ensures
