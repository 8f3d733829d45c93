-- Rule 5.3: what one entry more adds to the row index. It starts a group where the count is a multiple of 16.
use mathlib.Core.Path.{◌≡◌}
use Prim.Native.Nat.{◌+◌, ◌%◌}
use native.Mathlib.Omega.{arith}
use lib.Dec.{eqb}
use borrow.Author.Tests.{eqb-true, eqb-false}
use Rattle.lists.proofs.Choice.{on}
use Rattle.page.specs.Index.{index_size, IndexStep}

pub index_step : IndexStep
unfolding index_size
index_step n =
    on (eqb (n % 16) 0)
    (λ e.
    let full = eqb-true (n % 16) 0 e in
    let first : (n + 1) % 16 ≡ 1 = omega arith in
    rw (e, first) (omega arith))
    (λ e.
    on (eqb ((n + 1) % 16) 0)
    (λ f. let filled = eqb-true ((n + 1) % 16) 0 f in rw (e, f) (omega arith))
    (λ f. let unfilled = eqb-false ((n + 1) % 16) 0 f in rw (e, f) (omega arith)))
