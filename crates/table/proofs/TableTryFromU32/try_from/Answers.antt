-- `table::TableTryFromU32::try_from` meets its contract: each arm's number chooses its case of `table_of`, and any other number none.
use Rattle.table.specs.Table.{table_of}
use borrow.Author.Rules.{rules}
use Rattle.lists.proofs.Choice.{tests}
use Rattle.table.proofs.TableTryFromU32.try_from.Goals as goal

pub returns-in-0 : goal.returns-in-0
unfolding table_of
returns-in-0 c = rw c.in-0.is

pub returns-in-1 : goal.returns-in-1
unfolding table_of
returns-in-1 c = rw c.in-1.is

pub returns-in-2 : goal.returns-in-2
unfolding table_of
returns-in-2 c = rw c.in-2.is

pub returns-in-3 : goal.returns-in-3
unfolding table_of
returns-in-3 c = rw c.in-3.is

pub returns-in-4 : goal.returns-in-4
unfolding table_of
returns-in-4 c = rw c.in-4.is

pub returns-in-5 : goal.returns-in-5
unfolding table_of
returns-in-5 c = rw c.in-5.is

pub returns-in-6 : goal.returns-in-6
unfolding table_of
returns-in-6 c = rw c.in-6.is

pub returns-in-7 : goal.returns-in-7
unfolding table_of
returns-in-7 c = rw c.in-7.is

pub returns-in-8 : goal.returns-in-8
unfolding table_of
returns-in-8 c = rw c.in-8.is

pub returns-in-13 : goal.returns-in-13
unfolding table_of
returns-in-13 c = rw c.in-13.is

pub returns-in_default : goal.returns-in_default
unfolding table_of
returns-in_default c = search (tests, rules)
