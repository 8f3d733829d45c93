-- `chain::row_along` meets its contract: by the loop's invariant `Locating` (proofs/RowLoop).
use Rattle.chain.proofs.RowLoop.{Locating}
use Rattle.chain.proofs.row_along.Given as goal

abbrev pub invariant-loop : goal.invariant-loop
invariant-loop l = Locating l.size l.image l.first l.pages l.k l.page l.counter l.found
