-- `directory::allowed_tables` meets its contract: its two tests are those of `allowed_tables`.
use Rattle.directory.specs.Header.{allowed_tables}
use Rattle.lists.proofs.Choice.{tests}
use Rattle.directory.proofs.allowed_tables.Goals as goal

pub returns-then-n-ge1 : goal.returns-then-n-ge1
unfolding allowed_tables
returns-then-n-ge1 c = search tests

pub returns-else-n-ge1 : goal.returns-else-n-ge1
unfolding allowed_tables
returns-else-n-ge1 c = search tests
