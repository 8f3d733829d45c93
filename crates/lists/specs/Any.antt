-- Whether a test holds somewhere in a run of numbers, for slots, pointers, entries and bits.
use Rattle.std.specs.Prelude.{Bool, false, ◌||◌, ℕ, zero, suc, ◌+◌}

-- is true exactly when one of so many numbers from i on passes the test
unfoldable pub any_from : (test : ℕ → Bool) (left i : ℕ) → Bool
any_from test zero i = false
any_from test (suc left) i = test i || any_from test left (i + 1)
