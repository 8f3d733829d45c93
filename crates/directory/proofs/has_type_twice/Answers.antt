-- `directory::has_type_twice` meets its contract, by the invariant of a loop that keeps the types seen (proofs/TypesSeen).
use Rattle.directory.proofs.TypesSeen.{twice_begin, twice_here, twice_next, twice_end}
use Rattle.directory.proofs.has_type_twice.Goals as goal

pub loop-i-init : goal.loop-i-init
loop-i-init c = twice_begin

pub returns-then-has_type_in : goal.returns-then-has_type_in
returns-then-has_type_in c = twice_here c.loop-i.invariant c.loop-i-test.true c.type_at-t.ensures c.has_type_in.ensures c.if-has_type_in.true

pub loop-i-preserved : goal.loop-i-preserved
loop-i-preserved c = twice_next c.loop-i.invariant c.loop-i-test.true c.type_at-t.ensures c.has_type_in.ensures c.if-has_type_in.false c.with_type-seen.ensures

pub returns : goal.returns
returns c = twice_end c.loop-i.invariant c.loop-i-test.false
