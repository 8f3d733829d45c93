-- `directory::has_type_twice` meets its contract, by the invariant of a loop that keeps the types seen (proofs/TypesSeen).
use Rattle.directory.proofs.TypesSeen.{TwiceSearch}
use Rattle.directory.proofs.has_type_twice.Given as goal

abbrev pub invariant-loop-i : goal.invariant-loop-i
invariant-loop-i l = TwiceSearch l.block l.n l.seen l.i
