-- `directory::Directory::chain` meets its contract: the pointer that `find` answers is what `linked_chain` goes on with.
use Rattle.std.proofs.lemmas.Result.{err_from_is_err_and}
use Rattle.directory.specs.Chain.{chain_in}
use Rattle.directory.proofs.Directory.chain.Goals as goal

pub returns-in_err-pointer : goal.returns-in_err-pointer
unfolding chain_in
returns-in_err-pointer c =
    let passed = err_from_is_err_and c.from_residual.result c.from_residual.ensures.1 in
    rw (passed.1, passed.2, ← c.from.ensures, ← c.in_err-pointer.ensures)

pub returns : goal.returns
unfolding chain_in
returns c = rw (← c.from.ensures, ← c.in_ok-pointer.ensures) c.linked_chain.ensures
