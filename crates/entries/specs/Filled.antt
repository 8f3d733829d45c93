-- Rule 14.9 as one statement over the width: how entries lie that fill a tag.
use Rattle.std.specs.Prelude.{◌≡◌, true, List, [], ◌∷◌, ◌++◌, ℕ, ◌+◌, ◌<◌, ◌≤◌, length, drop, get_or}
use Rattle.lists.specs.Alias.{Bytes}
use Rattle.entries.specs.Entries.{entries_start, entry_at, entry, fills, entries}

-- lists end to end
unfoldable pub joined : List Bytes → Bytes
joined [] = []
joined (part ∷ parts) = part ++ joined parts

pub record Filled (width count : ℕ) (tag : Bytes) : Type 0 where
  -- the first stands at `18`, and each next one where the one before it ends
  pub first : entry_at width 0 ≡ entries_start
  pub next : (k : ℕ) → entry_at width (k + 1) ≡ entry_at width k + width
  -- each is whole inside the tag, and the last ends with it
  pub inside : (k : ℕ) → k < count → entry_at width k + width ≤ length tag
  pub whole : (k : ℕ) → k < count → length (entry width tag k) ≡ width
  pub last : entry_at width count ≡ length tag
  -- the list has them all, in order, and end to end they are the tag from `18` on
  pub counted : length (entries width count tag) ≡ count
  pub listed : (k : ℕ) → k < count → get_or (entries width count tag) k [] ≡ entry width tag k
  pub every : joined (entries width count tag) ≡ drop entries_start tag

-- for every width, number and tag
abbrev pub EveryFilled : Type 0
EveryFilled = (width count : ℕ) (tag : Bytes) → fills width count tag ≡ true → Filled width count tag
