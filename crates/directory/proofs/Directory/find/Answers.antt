-- `directory::Directory::find` meets its contract: the library's `find` over the pointers in use is `pointer_among`.
use lib.Dec.{eqb}
use lib.ListN.{take}
use borrow.Author.Rules.{rules}
use Rattle.std.proofs.lemmas.Iterator.{YieldsList-from_slice, YieldsList-from_take}
use Rattle.std.proofs.lemmas.Iterator.Search.{find_from_yields_List}
use Rattle.directory.specs.declared.Pointer.{Pointer}
use Rattle.directory.proofs.FindAmong.{among_found}
use Rattle.directory.proofs.Directory.find.Goals as goal

pub returns : goal.returns
returns c =
    let d = c.args.self.now in
    let test = λ (p : Pointer). eqb p.table_type c.args.t in
    let found = find_from_yields_List test _ _ c.find.result c.find.ensures.ran (YieldsList-from_take d.count (YieldsList-from_slice d.pointers cc) c.take.ensures.count) (λ x b q k. search rules) in
    rw (c.ok_or.ensures.value, c.copied.ensures) (among_found c.args.t (take d.count d.pointers) found)
