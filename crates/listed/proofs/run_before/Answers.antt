-- `listed::run_before` meets its contract: the places that the chain of iterators counts are those of the run (proofs.RunBack).
use mathlib.Core.Path.{◌∙◌}
use Prim.Native.Nat.{◌/◌}
use lib.ListN.{take}
use borrow.Author.Rules.{rules}
use Rattle.std.proofs.lemmas.Iterator.{YieldsList-from_take}
use Rattle.std.proofs.lemmas.Iterator.Adapters.{YieldsList-from_rev_slice}
use Rattle.std.proofs.lemmas.Iterator.Consumers.{count_from_yields_List}
use Rattle.std.proofs.lemmas.Iterator.Search.{YieldsList-from_take_while}
use Rattle.listed.proofs.RunBack.{on_page, run_counted}
use Rattle.listed.proofs.run_before.Goals as goal

pub returns : goal.returns
returns c =
    let a = c.args in
    let page = a.first / a.size in
    let source = c.take.ensures.source in
    count_from_yields_List c.take.result c.count.result c.count.ensures.ran
    (YieldsList-from_take a.size
    (YieldsList-from_take_while _ (on_page a.size page) (YieldsList-from_rev_slice (take a.i a.list.now) cc)
    (rw (← source) at c.take_while.ensures.closure) (rw (← source) at c.take_while.ensures.done) (λ x b q k. search rules))
    c.take.ensures.count)
    ∙ run_counted a.size a.list.now page a.i c.requires.0
