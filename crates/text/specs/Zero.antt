-- Rule 6.12: the first zero byte of some bytes.
use Rattle.std.specs.Prelude.{cond, [], ◌∷◌, ℕ, ◌+◌, eqb, Option, Some, None}
use Rattle.lists.specs.Alias.{Bytes}

-- the first place that has a zero byte, if there is one; places count from this one on
unfoldable pub first_zero : (bytes : Bytes) (place : ℕ) → Option ℕ
first_zero [] place = None
first_zero (byte ∷ rest) place = cond (eqb byte 0) (Some place) (first_zero rest (place + 1))
