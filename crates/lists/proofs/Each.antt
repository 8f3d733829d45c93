-- What holds of each member of a list.
--     each_at, each_every               of one by its number, and the other way round
--     each_append, each_of              of two lists one behind the other; what follows from it
--     each_member                       of a number that is a member
use mathlib.Core.Path.{◌≡◌}
use mathlib.Core.Bool.{true}
use mathlib.Core.List.{List, [], ◌∷◌, ◌++◌}
use mathlib.Core.Logic.{⊎_elim}
use Prim.Native.Nat.{ℕ, zero, suc, ◌<◌}
use native.Mathlib.Omega.{arith}
use lib.ListN.{length, get_or}
use Rattle.lists.specs.Member.{is_member}
use Rattle.lists.proofs.Choice.{never}
use Rattle.lists.proofs.Member.{member_cases}

module _ {A : Type 0} where
  -- P holds of each member
  abbrev pub Each : (A → Type 0) → List A → Type 0
  Each P [] = Unit {0}
  Each P (x ∷ xs) = P x × Each P xs

  pub each_at : (P : A → Type 0) (xs : List A) (k : ℕ) (d : A) → Each P xs → k < length xs → P (get_or xs k d)
  each_at P [] k d e h = absurd (omega arith)
  each_at P (x ∷ xs) zero d e h = e.0
  each_at P (x ∷ xs) (suc k) d e h = each_at P xs k d e.1 (omega arith)

  pub each_every : (P : A → Type 0) (xs : List A) (d : A) → ((k : ℕ) → k < length xs → P (get_or xs k d)) → Each P xs
  each_every P [] d f = tt
  each_every P (x ∷ xs) d f = (f zero (omega arith), each_every P xs d (λ k h. f (suc k) (omega arith)))

  pub each_append : (P : A → Type 0) (xs ys : List A) → Each P xs → Each P ys → Each P (xs ++ ys)
  each_append P [] ys e f = f
  each_append P (x ∷ xs) ys e f = (e.0, each_append P xs ys e.1 f)

  pub each_of : (P Q : A → Type 0) (xs : List A) → ((x : A) → P x → Q x) → Each P xs → Each Q xs
  each_of P Q [] f e = tt
  each_of P Q (x ∷ xs) f e = (f x e.0, each_of P Q xs f e.1)

pub each_member : (P : ℕ → Type 0) (xs : List ℕ) (x : ℕ) → Each P xs → is_member x xs ≡ true → P x
unfolding is_member
each_member P [] x e m = never (cc)
each_member P (y ∷ ys) x e m = ⊎_elim (λ q. rw q e.0) (λ r. each_member P ys x e.1 r) (member_cases x y ys m)
