-- `row::check_texts` meets its contract, by the loop's invariant `Checked` (proofs/TextsLoop).
use Rattle.row.proofs.TextsLoop.{Checked}
use Rattle.row.proofs.check_texts.Given as goal

abbrev pub invariant-loop-slot : goal.invariant-loop-slot
invariant-loop-slot l = Checked l.table l.row l.slots l.count l.slot
