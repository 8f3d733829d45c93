-- `cue_list::cues_hold` meets its contract: the entries are judged by their numbers (entries/EntriesRange).
use Rattle.std.proofs.Common.{rules, tests}
use Rattle.entries.proofs.EntriesRange.{every_from_all}
use Rattle.cue_list.specs.Cue.{cue_holds}
use Rattle.cue_list.proofs.cues_hold.Goals as goal

pub returns : goal.returns
returns c = every_from_all cue_holds _ _ _ _ _ _ c.all.ensures.ran (cc) (λ x b q k. search (rules, tests))
