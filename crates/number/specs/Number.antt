-- Rules 1.2, 1.3 and 14.1: a number's value at an offset of some bytes, the low byte first, or the high byte first. A byte past the end is taken for 0.
use Rattle.std.specs.Prelude.{[], ◌∷◌, ℕ, ◌+◌, ◌*◌, get_or}
use Rattle.lists.specs.Alias.{Bytes}

abbrev pub byte_at : (s : Bytes) (at : ℕ) → ℕ
byte_at s at = get_or s at 0

-- four bytes, in their order
abbrev pub bytes_at : (s : Bytes) (at : ℕ) → Bytes
bytes_at s at = byte_at s at ∷ byte_at s (at + 1) ∷ byte_at s (at + 2) ∷ byte_at s (at + 3) ∷ []

-- two bytes, the low one first
unfoldable pub le16 : (s : Bytes) (at : ℕ) → ℕ
le16 s at = byte_at s at + 256 * byte_at s (at + 1)

-- three bytes: a number of two bytes and a high byte
unfoldable pub le24 : (s : Bytes) (at : ℕ) → ℕ
le24 s at = le16 s at + 65536 * byte_at s (at + 2)

-- four bytes: two numbers of two bytes, the low one first
unfoldable pub le32 : (s : Bytes) (at : ℕ) → ℕ
le32 s at = le16 s at + 65536 * le16 s (at + 2)

-- Rule 14.1: two bytes, the high one first
unfoldable pub be16 : (s : Bytes) (at : ℕ) → ℕ
be16 s at = 256 * byte_at s at + byte_at s (at + 1)

-- four bytes: two numbers of two bytes, the high one first
unfoldable pub be32 : (s : Bytes) (at : ℕ) → ℕ
be32 s at = 65536 * be16 s at + be16 s (at + 2)
