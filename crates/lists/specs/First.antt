-- The first number of a run that passes a test, for blocks.
use Rattle.std.specs.Prelude.{Bool, cond, ℕ, zero, suc, ◌+◌}
use Rattle.std.proofs.Math.Option.{Option, none, some}

-- the first of so many numbers from i on that passes the test, or none
unfoldable pub first_from : (test : ℕ → Bool) (left i : ℕ) → Option ℕ
first_from test zero i = none
first_from test (suc left) i = cond (test i) (some i) (first_from test left (i + 1))
