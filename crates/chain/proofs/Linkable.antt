-- A page that a link may name is one of 1..P-1, and the other way round: rule 3.12.
use mathlib.Core.Path.{◌≡◌}
use mathlib.Core.Bool.{true}
use Prim.Native.Nat.{ℕ, ◌<◌, ◌≤◌}
use lib.Dec.{ltb, leb}
use borrow.Author.Tests.{leb-true, ltb-true, le-leb, lt-ltb}
use Rattle.format.specs.Place.{linkable}
use Rattle.lists.proofs.Choice.{both_true}

pub inside_both : (count page : ℕ) → linkable count page ≡ true → (1 ≤ page) × (page < count)
unfolding linkable
inside_both count page e =
    let both = both_true (leb 1 page) (ltb page count) e in
    (leb-true 1 page both.0, ltb-true page count both.1)

pub both_inside : (count page : ℕ) → 1 ≤ page → page < count → linkable count page ≡ true
unfolding linkable
both_inside count page h l = rw (le-leb 1 page h, lt-ltb page count l)
