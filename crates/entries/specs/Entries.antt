-- Rule 14.9: entries of one width in a section, from byte `18` on. A section's bytes are called a tag.
use Rattle.std.specs.Prelude.{Bool, List, [], ◌∷◌, ℕ, zero, suc, ◌+◌, ◌*◌, length, take, drop, eqb}
use Rattle.lists.specs.Alias.{Bytes}

-- where the first entry starts in the tag
abbrev pub entries_start : ℕ
entries_start = 0x18

-- where entry k starts in the tag, k counted from 0
abbrev pub entry_at : (width k : ℕ) → ℕ
entry_at width k = entries_start + width * k

-- the bytes of entry k
abbrev pub entry : (width : ℕ) (tag : Bytes) (k : ℕ) → Bytes
entry width tag k = take width (drop (entry_at width k) tag)

-- is true exactly when so many entries end where the tag ends
unfoldable pub fills : (width count : ℕ) (tag : Bytes) → Bool
fills width count tag = eqb (entry_at width count) (length tag)

-- so many entries from entry k on
unfoldable pub entries_from : (width : ℕ) (tag : Bytes) (left k : ℕ) → List Bytes
entries_from width tag zero k = []
entries_from width tag (suc left) k = entry width tag k ∷ entries_from width tag left (k + 1)

abbrev pub entries : (width count : ℕ) (tag : Bytes) → List Bytes
entries width count tag = entries_from width tag count 0
