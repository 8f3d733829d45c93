-- `desk_steps::step` meets its contract: each command has its function.
use Rattle.desk_steps.proofs.step.Goals as goal

pub returns-in-Open : goal.returns-in-Open
returns-in-Open c = rw c.in-Open.is (c.open.ensures c.args.list.now)

pub returns-in-Deliver : goal.returns-in-Deliver
returns-in-Deliver c = rw c.in-Deliver.is (c.deliver.ensures c.args.list.now)
