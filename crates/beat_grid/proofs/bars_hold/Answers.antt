-- `beat_grid::bars_hold` meets its contract: the beats are judged by their numbers (entries/EntriesRange).
use Rattle.std.proofs.Common.{rules, tests}
use Rattle.entries.proofs.EntriesRange.{every_from_all}
use Rattle.beat_grid.specs.Beat.{beat_holds}
use Rattle.beat_grid.proofs.bars_hold.Goals as goal

pub returns : goal.returns
returns c = every_from_all beat_holds _ _ _ _ _ _ c.all.ensures.ran (cc) (λ x b q k. search (rules, tests))
