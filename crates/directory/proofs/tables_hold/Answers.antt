-- `directory::tables_hold` meets its contract: its two tests are those of `tables_hold`.
use Rattle.directory.specs.Header.{tables_hold}
use Rattle.directory.proofs.tables_hold.Goals as goal

pub returns-then-allowed_tables : goal.returns-then-allowed_tables
unfolding tables_hold
returns-then-allowed_tables c = rw (← c.allowed_tables.ensures, c.if-allowed_tables.true, c.has_type_twice.ensures)

pub returns-else-allowed_tables : goal.returns-else-allowed_tables
unfolding tables_hold
returns-else-allowed_tables c = rw (← c.allowed_tables.ensures, c.if-allowed_tables.false)
