-- Definitions that only the contracts of private functions and the proofs cite.
use Rattle.std.specs.Prelude.{◌≡◌, cond, ℕ, ◌^◌, ◌<◌, ltb, eqb}
use Rattle.std.specs.Int.Bits.{bit_or}
use Rattle.lists.specs.Alias.{Bytes}
use Rattle.bitmap.specs.Bit.{digit}
use Rattle.directory.specs.Header.{has_type}

-- the types below 64 of the first n pointers: digit t of the word is one exactly when one of them has type t
pub record TypesIn (block : Bytes) (n word : ℕ) : Type 0 where
  pub types : (t : ℕ) → t < 64 → eqb (digit word t) 1 ≡ has_type block n t

-- the word with the digit of type t set; only a type below 64 has one
unfoldable pub with_type : ℕ → ℕ → ℕ
with_type word t = cond (ltb t 64) (bit_or word (2 ^ t)) word
