-- Rule 8.10: the rows that an earlier answer wrote stand at the front of a later one.
use Rattle.std.specs.Prelude.{◌≡◌, List, length, take}

-- these rows, or places, stand at the front of all of them
unfoldable pub Begins : {A : Type 0} → List A → List A → Type 0
Begins rows all = take (length rows) all ≡ rows
