-- `directory::has_type` meets its contract: `any` over the numbers below n is `any_from`.
use mathlib.Core.Path.{refl, ◌∙◌}
use native.Mathlib.Nat.{sub-zero}
use Prim.Native.Nat.{ℕ}
use lib.Dec.{eqb}
use borrow.Author.Rules.{rules}
use Rattle.std.proofs.lemmas.Iterator.{YieldsList-from_range}
use Rattle.std.proofs.lemmas.Iterator.Search.{any_from_yields_List}
use Rattle.directory.specs.Header.{type, has_type}
use Rattle.lists.proofs.Any.{any_range}
use Rattle.directory.proofs.has_type.Goals as goal

pub returns : goal.returns
unfolding has_type
returns c =
    let a = c.args in
    let test = λ (i : ℕ). eqb (type a.block.now i) a.t in
    any_from_yields_List test _ _ _ c.any.ensures.ran (YieldsList-from_range 0 a.n a.n refl (sub-zero a.n)) (λ x b q k. search rules)
    ∙ any_range test a.n 0
