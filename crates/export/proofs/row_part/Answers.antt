-- `export::row_part` meets its contract: the part behind a start is what is left of the bytes before the index.
use Rattle.std.proofs.Common.{◌∙◌}
use Rattle.export.specs.Row.{row_part}
use Rattle.lists.proofs.Part.{part_rest}
use Rattle.export.proofs.row_part.Goals as goal

pub returns : goal.returns
unfolding row_part
returns c = rw (← c.part.ensures, ← c.before_index-before.ensures) (c.subslice.ensures ∙ part_rest c.before_index-before.result.now _)
