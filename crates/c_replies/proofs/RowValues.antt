-- Rule 13.4: two values written to the front, and the others to the part behind them, are all of them written to the front.
--     values_short     the result has no part behind two values
--     values_long      it has one
use mathlib.Core.Path.{◌≡◌, sym, ap, ◌∙◌}
use mathlib.Core.List.{List, [], ◌∷◌}
use Prim.Native.Nat.{ℕ, ◌-◌, ◌<◌, ◌≤◌}
use native.Mathlib.Omega.{arith}
use lib.ListN.{length, take, drop}
use lib.Seq.{sets}
use borrow.Rule.Slice.PartMut.{put_mid}
use Rattle.lists.specs.Write.{written}
use Rattle.lists.proofs.Sets.{sets_append, sets_past, put_rest}

module _ (x y : ℕ) (rest list : List ℕ) {first : List ℕ} (e : first ≡ written list (x ∷ y ∷ [])) where
  behind : sets first 2 rest ≡ written list (x ∷ y ∷ rest)
  behind = ap (λ (l : List ℕ). sets l 2 rest) e ∙ sym (sets_append list 0 (x ∷ y ∷ []) rest)

  pub values_short : length first < 2 → first ≡ written list (x ∷ y ∷ rest)
  values_short h = sym (sets_past first 2 rest (omega arith)) ∙ behind

  pub values_long : {part : List ℕ} → 2 ≤ length first → part ≡ written (take (length first - 2) (drop 2 first)) rest
      → put_mid 2 (length first - 2) first part ≡ written list (x ∷ y ∷ rest)
  values_long h p = put_rest first 2 rest h p ∙ behind
