-- `chain::is_held` meets its contract: the map has each block of the page (proofs/BlocksHeld).
use mathlib.Core.Path.{refl, ◌∙◌}
use native.Mathlib.Nat.{sub-zero}
use borrow.Author.Rules.{rules}
use Rattle.std.proofs.lemmas.Iterator.{YieldsList-from_range}
use Rattle.std.proofs.lemmas.Iterator.Search.{all_from_yields_List}
use Rattle.chain.specs.Held.{blocks_in_page}
use Rattle.chain.proofs.BlocksHeld.{block_held, all_held}
use Rattle.chain.proofs.is_held.Goals as goal

pub returns : goal.returns
returns c =
    let a = c.args in
    let n = blocks_in_page a.size in
    all_from_yields_List (block_held a.size a.map.now a.number) _ _ _ c.all.ensures.ran (YieldsList-from_range 0 n n refl (sub-zero n)) (λ x b q k. search rules)
    ∙ all_held a.size a.map.now a.number
