-- Whether two lists of bytes are equal, as a test: rules 1.14 and 1.15 compare a piece with a block so.
use Rattle.std.specs.Prelude.{Bool, true, false, ◌&&◌, [], ◌∷◌, eqb}
use Rattle.lists.specs.Alias.{Bytes}

unfoldable pub equal : Bytes → Bytes → Bool
equal [] [] = true
equal [] (y ∷ t) = false
equal (x ∷ s) [] = false
equal (x ∷ s) (y ∷ t) = eqb x y && equal s t
