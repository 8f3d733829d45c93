-- `directory::Directory::read` meets its contract: whether the header holds chooses the case of `read_header`.
use Rattle.directory.specs.Directory.{read_header}
use Rattle.directory.proofs.Directory.read.Goals as goal

pub returns-then-header_holds : goal.returns-then-header_holds
unfolding read_header
returns-then-header_holds c = rw (← c.header_holds.ensures, c.if-header_holds.true, c.directory_of.ensures)

pub returns-else-header_holds : goal.returns-else-header_holds
unfolding read_header
returns-else-header_holds c = rw (← c.header_holds.ensures, c.if-header_holds.false)
