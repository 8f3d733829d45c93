-- `desk_commands::run` meets its contract: at each turn some commands have led from the start to the state (proofs/ReachedStates), those
-- of known bytes (proofs/KnownInput).
use Rattle.std.proofs.Common.{arith}
use Rattle.desk_commands.proofs.ReachedStates.{none_reached, both_reached}
use Rattle.desk_commands.proofs.KnownInput.{leads_start, leads_on, leads_end, ran_all, ran_out}
use Rattle.desk_commands.proofs.run.Goals as goal

pub loop-init : goal.loop-init
loop-init g c = rw c.new-intake.ensures (none_reached _, leads_start _ _)

pub returns-in_err-next-clause-some : goal.returns-in_err-next-clause-some
returns-in_err-next-clause-some g c = record { len = _; reached = both_reached c.loop.invariant.0 c.in_err-next.ensures.err.reached }

pub returns-in-None-clause-some : goal.returns-in-None-clause-some
returns-in-None-clause-some g c = record { len = _; reached = both_reached c.loop.invariant.0 (rw c.in-None.is at c.in_ok-next.ensures.ok) }

pub returns-in-None-clause-all : goal.returns-in-None-clause-all
returns-in-None-clause-all g c = ran_all _ _ _ _ _ _ _ _ _ (leads_end _ _ _ _ _ _ c.loop.invariant.1 (rw c.in-None.is at c.in_ok-next.ensures.read))

pub loop-preserved : goal.loop-preserved
loop-preserved g c = (
  both_reached c.loop.invariant.0 (rw c.in-Some.is at c.in_ok-next.ensures.ok),
  leads_on _ _ _ _ _ _ _ c.loop.invariant.1 (rw c.in-Some.is at c.in_ok-next.ensures.read),
)

pub returns-clause-all : goal.returns-clause-all
returns-clause-all g c = ran_out _ _ _ _ _ _ _ _ _ c.loop.counter _ (omega (arith, c.loop-test.false)) c.loop.invariant.1
