-- Section 7 and rules 14.16 to 14.19, 14.30 to 14.33: when two lists of bytes agree on relevant bytes, those that an answer may depend on.
-- A definition's agreement law says that lists which agree on the bytes that it names give the same result.
use Rattle.std.specs.Prelude.{◌≡◌, Bool, true, ◌&&◌, ℕ, ◌+◌, ◌-◌, length, leb, ltb}
use Rattle.lists.specs.Alias.{Bytes}
use Rattle.number.specs.Number.{byte_at}

-- is true exactly when byte i is one of the size bytes that start at from
unfoldable pub within : (from size i : ℕ) → Bool
within from size i = leb from i && ltb i (from + size)

-- byte i is one of the size bytes that start at from, and passes a test as a byte of these
unfoldable pub in_part : (test : ℕ → Bool) (from size i : ℕ) → Bool
in_part test from size i = within from size i && test (i - from)

-- s and t have one length, and their relevant bytes are equal
pub record Agree (relevant : ℕ → Bool) (s t : Bytes) : Type 0 where
  pub long : length s ≡ length t
  pub same : (i : ℕ) → relevant i ≡ true → byte_at s i ≡ byte_at t i

-- every list as long as this one that has the same bytes wherever the test holds gives the same answer
abbrev pub DecidedBy : {A : Type 0} (test : ℕ → Bool) (answer : Bytes → A) (bytes : Bytes) → Type 0
DecidedBy test answer bytes = (other : Bytes) → Agree test bytes other → answer bytes ≡ answer other
