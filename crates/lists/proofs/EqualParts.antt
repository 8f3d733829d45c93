-- Lists that agree in parts.
--     same_front, same_past    equal fronts, and equal rests, have the same elements
--     front_same               two lists of one length with the same elements before n have equal fronts
--     same_parts               two lists of one length that agree before n and from n on are equal
--     copy_more                a turn of a loop that copies one list over another: one element more of the front is copied
use mathlib.Core.Path.{◌≡◌, sym, ap, ◌∙◌}
use mathlib.Core.List.{List, ◌++◌}
use Prim.Native.Nat.{ℕ, suc, ◌+◌, ◌-◌, ◌<◌, ◌≤◌}
use native.Mathlib.Omega.{arith}
use native.Mathlib.Numerals.{add-one}
use lib.ListN.{length, take, drop, get_or, set, length-take}
use lib.Seq.{ext_get_or, get_or-take, get_or-drop, drop-cons, take-suc, set_at, length-take-le, append_snoc}
use lib.Dec.{ltb}
use borrow.Author.Tests.{ltb-true, ltb-false}
use Rattle.lists.proofs.Choice.{on}

module _ {A : Type 0} (d : A) (s t : List A) (n : ℕ) where
  pub same_front : (i : ℕ) → take n s ≡ take n t → i < n → get_or s i d ≡ get_or t i d
  same_front i e h = sym (get_or-take n s i d h) ∙ ap (λ (x : List A). get_or x i d) e ∙ get_or-take n t i d h

  pub front_same : length s ≡ length t → ((i : ℕ) → i < n → get_or s i d ≡ get_or t i d) → take n s ≡ take n t
  front_same e h =
      ext_get_or d (take n s) (take n t) (simp (length-take, e)) (λ i l.
      let g : i < n = omega (arith, length-take n s) in
      get_or-take n s i d g ∙ h i g ∙ sym (get_or-take n t i d g))

  pub same_past : (i : ℕ) → drop n s ≡ drop n t → n ≤ i → get_or s i d ≡ get_or t i d
  same_past i e h =
      let k : n + (i - n) ≡ i = omega arith in
      rw k at (sym (get_or-drop n s (i - n) d) ∙ ap (λ (x : List A). get_or x (i - n) d) e ∙ get_or-drop n t (i - n) d)

  pub same_parts : length s ≡ length t → ((i : ℕ) → i < n → get_or s i d ≡ get_or t i d) → drop n s ≡ drop n t → s ≡ t
  same_parts e front past = ext_get_or d s t e (λ i l. on (ltb i n) (λ h. front i (ltb-true i n h)) (λ h. same_past i past (ltb-false i n h)))

pub copy_more : {A : Type 0} (d : A) (into from : List A) (i : ℕ) → i < length into → i < length from
    → set (take i from ++ drop i into) i (get_or from i d) ≡ take (i + 1) from ++ drop (i + 1) into
copy_more d into from i h k =
    let short : length (take i from) ≡ i = length-take-le i from (omega arith) in
    rw (add-one, drop-cons into i d h, set_at (take i from) (get_or into i d) (drop (suc i) into) (get_or from i d) i short, take-suc from i d k)
    (sym (append_snoc (take i from) (get_or from i d) (drop (suc i) into)))
