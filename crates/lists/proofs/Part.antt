-- Parts of a slice, as the code takes them and as the definitions name them.
--     part_rest                            `&s[a..]`
--     part_sized                           `&s[a..a + n]`
--     part_ends, part_inside               where a part ends, and a part of it
use mathlib.Core.Path.{◌≡◌, sym, ap, ◌∙◌}
use mathlib.Core.List.{List}
use Prim.Native.Nat.{ℕ, ◌+◌, ◌-◌, ◌<◌, ◌≤◌}
use native.Mathlib.Omega.{arith}
use lib.ListN.{length, take, drop, length-take, length-drop, take-append-drop}
use lib.Seq.{take_all, drop-drop, take-append-le, drop-append-le}
use Rattle.lists.specs.Alias.{Bytes}
use Rattle.lists.specs.Subslice.{subslice}

pub part_rest : (s : List ℕ) (a : ℕ) → take (length s - a) (drop a s) ≡ drop a s
part_rest s a = take_all (length s - a) (drop a s) (omega (arith, length-drop a s))

pub part_sized : (s : List ℕ) (a n : ℕ) → take (a + n - a) (drop a s) ≡ take n (drop a s)
part_sized s a n = let e : a + n - a ≡ n = omega arith in rw e

module _ (s : Bytes) (start end : ℕ) where
  -- one that is not empty ends at its end or at that of the slice
  pub part_ends : 0 < length (subslice s start end) → (start + length (subslice s start end) ≤ end) × (start + length (subslice s start end) ≤ length s)
  part_ends h =
      let size = length-take (end - start) (drop start s) in
      let left = length-drop start s in
      (omega arith, omega arith)

  -- a part that is whole inside it is a part of the slice
  pub part_inside : (at size : ℕ) → at + size ≤ length (subslice s start end)
      → subslice s (start + at) (start + at + size) ≡ take size (drop at (subslice s start end))
  part_inside at size h =
      let rest = drop start s in
      let part = take (end - start) rest in
      let behind = drop (end - start) rest in
      let left = length-drop at part in
      part_sized s (start + at) size
      ∙ rw (← drop-drop at start s)
      (sym (ap (λ (l : Bytes). take size (drop at l)) (take-append-drop (end - start) rest))
      ∙ rw (drop-append-le at part behind (omega arith), take-append-le size (drop at part) behind (omega arith)))
