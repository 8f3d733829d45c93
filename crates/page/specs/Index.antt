-- Rules 5.1 to 5.3 and 5.5 to 5.7: the row index, from the page's end backwards in groups of 16 entries.
use Rattle.std.specs.Prelude.{◌≡◌, Bool, cond, List, [], ◌∷◌, ℕ, zero, suc, ◌+◌, ◌-◌, ◌*◌, ◌/◌, ◌%◌, ◌^◌, length, eqb}
use Rattle.lists.specs.Alias.{Bytes}
use Rattle.number.specs.Number.{le16}
use Rattle.format.specs.Size.{heap_start, group_size}

-- Rule 5.2: where the presence flags of entry i's group stand, and where its offset does.
unfoldable pub flags_at : (page : Bytes) (i : ℕ) → ℕ
flags_at page i = length page - group_size * (i / 16) - 4

unfoldable pub offset_at : (page : Bytes) (i : ℕ) → ℕ
offset_at page i = flags_at page i - 2 - 2 * (i % 16)

-- Rule 5.3: a rest of r entries takes four bytes and two for each of them, and no bytes where r is 0.
abbrev pub rest_size : ℕ → ℕ
rest_size r = cond (eqb r 0) 0 (4 + 2 * r)

-- Rule 5.3: whole groups times their size, and the rest's part.
unfoldable pub index_size : ℕ → ℕ
index_size n = group_size * (n / 16) + rest_size (n % 16)

-- Rule 5.3, proved as `index_step`: what one entry more adds, for every count and so for those below 8,191.
abbrev pub IndexStep : Type 0
IndexStep = (n : ℕ) → index_size (n + 1) ≡ index_size n + cond (eqb (n % 16) 0) 6 2

-- Rule 5.5.
unfoldable pub present : (page : Bytes) (i : ℕ) → Bool
present page i = eqb (le16 page (flags_at page i) / 2 ^ (i % 16) % 2) 1

-- Rule 5.6.
unfoldable pub row_start : (page : Bytes) (i : ℕ) → ℕ
row_start page i = heap_start + le16 page (offset_at page i)

-- Rule 5.7: the present entries among so many from i on, in the order of the index.
unfoldable pub present_from : (page : Bytes) (left i : ℕ) → List ℕ
present_from page zero i = []
present_from page (suc left) i = cond (present page i) (i ∷ present_from page left (i + 1)) (present_from page left (i + 1))
