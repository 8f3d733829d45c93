-- Lists whose numbers differ from each other.
use Rattle.std.specs.Prelude.{◌≡◌, false, List, [], ◌∷◌, ℕ}
use Rattle.lists.specs.Member.{is_member}

-- each differs from those behind it
abbrev pub Distinct : List ℕ → Type 0
Distinct [] = Unit {0}
Distinct (x ∷ xs) = (is_member x xs ≡ false) × Distinct xs
