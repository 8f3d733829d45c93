-- Rule 8.10: the places that a question for all rows has written. Document 01 calls them shown rows.
use Rattle.std.proofs.Math.Option.{Option, none, some}
use Rattle.std.specs.Prelude.{ℕ, take}
use Rattle.lists.specs.Alias.{Places}
use Rattle.refusal.specs.Answer.{given, refused}
use Rattle.chain.specs.Walk.{Walk}
use Rattle.chain.specs.Tally.{rows_counted}
use Rattle.export.specs.Rows.{RowsOutcome}

-- the front of the list afterwards, as many places as the answer carries
abbrev pub written_in : Walk ℕ → Places → Option Places
written_in (given progress) list = some (take (rows_counted progress) list)
written_in (refused f) list = none

abbrev pub places_written : RowsOutcome → Option Places
places_written o = written_in o.answer o.list
