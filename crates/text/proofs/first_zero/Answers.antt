-- `text::first_zero` meets its contract: `position` finds what `first_zero` does.
use mathlib.Core.Path.{◌∙◌}
use Prim.Native.Nat.{ℕ}
use lib.Dec.{eqb}
use borrow.Author.Rules.{rules}
use borrow.Author.Tests.{tests}
use Rattle.std.proofs.lemmas.Iterator.{YieldsList-from_slice}
use Rattle.std.proofs.lemmas.Iterator.Search.{position_from_yields_List}
use Rattle.std.proofs.lemmas.Iterator.Adapters.{position_from-zero}
use Rattle.text.proofs.FirstZero.{first_position}
use Rattle.text.proofs.first_zero.Goals as goal

pub returns : goal.returns
returns c =
    let zero = λ (b : ℕ). eqb b 0 in
    position_from_yields_List zero _ _ _ c.position.ensures.ran (YieldsList-from_slice c.args.bytes.now cc) (λ x b q k. search (rules, tests))
    ∙ position_from-zero zero c.args.bytes.now ∙ first_position c.args.bytes.now 0
