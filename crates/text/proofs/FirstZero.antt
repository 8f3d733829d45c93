-- The first zero byte.
--     first_position     it is the one that std's search finds
--     zero_inside        it is one of the bytes
use mathlib.Core.Path.{◌≡◌, refl}
use mathlib.Core.List.{[], ◌∷◌}
use Rattle.std.specs.Prelude.{Option, Some, None}
use Rattle.std.specs.List.{position_from}
use Prim.Native.Nat.{ℕ, ◌+◌, ◌<◌}
use native.Mathlib.Omega.{arith}
use lib.ListN.{length}
use lib.Dec.{eqb}
use Rattle.lists.specs.Alias.{Bytes}
use Rattle.lists.proofs.Choice.{cond_holds}
use Rattle.text.specs.Zero.{first_zero}

pub first_position : (bytes : Bytes) (place : ℕ) → position_from (λ (b : ℕ). eqb b 0) place bytes ≡ first_zero bytes place
unfolding first_zero
first_position [] place = refl
first_position (byte ∷ rest) place = rw (← first_position rest (place + 1)) refl

-- what holds of a zero byte found among bytes that start at a place
abbrev pub AmongThem : (bytes : Bytes) (place : ℕ) (found : Option ℕ) → Type 0
AmongThem bytes place (Some i) = i < place + length bytes
AmongThem bytes place None = Unit {0}

pub zero_inside : (bytes : Bytes) (place : ℕ) → AmongThem bytes place (first_zero bytes place)
unfolding first_zero
zero_inside [] place = tt
zero_inside (byte ∷ rest) place =
    cond_holds (AmongThem (byte ∷ rest) place) (eqb byte 0) (λ _. omega arith) (λ _. more (first_zero rest (place + 1)) (zero_inside rest (place + 1)))
  where
    more : (found : Option ℕ) → AmongThem rest (place + 1) found → AmongThem (byte ∷ rest) place found
    more (Some i) h = omega arith
    more None h = tt
