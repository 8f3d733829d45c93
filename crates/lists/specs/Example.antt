-- Examples of a test: what it says, and what it should say. The examples of a list hold where both are the same.
use Rattle.std.specs.Prelude.{◌≡◌, Bool, List, map}

pub record Example : Type 0 where
  pub found : Bool
  pub said : Bool

abbrev pub ExamplesHold : List Example → Type 0
ExamplesHold list = map (λ (e : Example). e.found) list ≡ map (λ (e : Example). e.said) list
