-- Rules 1.2, 1.3 and 14.1: numbers at and past the end of some bytes, the four bytes of a number, and how great it is.
use mathlib.Core.Path.{◌≡◌, ap}
use Prim.Native.Nat.{ℕ, ◌+◌, ◌*◌, ◌<◌, ◌≤◌}
use native.Mathlib.Omega.{arith}
use lib.ListN.{length, get_or-eq_default}
use Rattle.lists.specs.Alias.{Bytes}
use Rattle.number.specs.Number.{byte_at, le16, le24, le32, be16, be32}

module _ (s : Bytes) (at : ℕ) where
  pub byte_past : length s ≤ at → byte_at s at ≡ 0
  byte_past h = get_or-eq_default s 0 h

-- the four bytes one by one
pub le32_bytes : (s : Bytes) (at : ℕ) → le32 s at ≡ byte_at s at + 256 * byte_at s (at + 1) + 65536 * byte_at s (at + 2) + 16777216 * byte_at s (at + 3)
unfolding le32 le16
le32_bytes s at = let e : byte_at s (at + 2 + 1) ≡ byte_at s (at + 3) = ap (λ (k : ℕ). byte_at s k) (omega arith) in omega arith

pub be32_bytes : (s : Bytes) (at : ℕ) → be32 s at ≡ 16777216 * byte_at s at + 65536 * byte_at s (at + 1) + 256 * byte_at s (at + 2) + byte_at s (at + 3)
unfolding be32 be16
be32_bytes s at = let e : byte_at s (at + 2 + 1) ≡ byte_at s (at + 3) = ap (λ (k : ℕ). byte_at s k) (omega arith) in omega arith

-- three bytes make a number below 2^24, and four one below 2^32
pub le24_fits : (s : Bytes) (at : ℕ) → ((i : ℕ) → byte_at s i < 256) → le24 s at < 0x100_0000
unfolding le24 le16
le24_fits s at low = omega (arith, low at, low (at + 1), low (at + 2))

pub be32_fits : (s : Bytes) (at : ℕ) → ((i : ℕ) → byte_at s i < 256) → be32 s at < 0x1_0000_0000
be32_fits s at low = omega (arith, be32_bytes s at, low at, low (at + 1), low (at + 2), low (at + 3))
