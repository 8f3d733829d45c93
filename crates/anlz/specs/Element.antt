-- Rules 14.14 and 14.24: element k of a list, counted from 0; 18 where there is none.
use Rattle.std.specs.Prelude.{List, [], ◌∷◌, ℕ, zero, suc}
use Rattle.refusal.specs.Fault.{fault}
use Rattle.refusal.specs.Answer.{Answer, given, refused}

unfoldable pub element_at : {A : Type 0} (k : ℕ) → List A → Answer A
element_at k [] = refused (fault 18 0)
element_at zero (x ∷ xs) = given x
element_at (suc k) (x ∷ xs) = element_at k xs
