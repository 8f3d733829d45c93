-- `chain::fill_along` meets its contract, by the loop's invariant `Filling` (proofs/FillLoop).
use Rattle.chain.proofs.FillLoop.{Filling}
use Rattle.chain.proofs.fill_along.Given as goal

abbrev pub invariant-loop : goal.invariant-loop
invariant-loop l = Filling l.size l.image l.first l.pages l.initial.list l.page l.counter l.at l.list
