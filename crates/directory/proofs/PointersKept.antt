-- The array of pointers: filled from the front, one pointer at a time. Rule 3.9.
use mathlib.Core.Path.{◌≡◌, refl, ap, sym, ◌∙◌}
use mathlib.Core.List.{List, [], ◌∷◌, ◌++◌}
use Prim.Native.Nat.{ℕ, zero, suc, ◌+◌, ◌-◌, ◌<◌, ◌≤◌}
use native.Mathlib.Omega.{arith}
use lib.ListN.{length, set, replicate, length-append, length-replicate}
use lib.Seq.{set_at, append_snoc}
use Rattle.directory.specs.declared.Pointer.{Pointer}
use Rattle.directory.specs.Directory.{pointer_in, pointers_from, no_pointer, kept}
use Rattle.lists.proofs.Choice.{left_step}

from_length : (block : List ℕ) (k i : ℕ) → length (pointers_from block k i) ≡ k
unfolding pointers_from
from_length block zero i = refl
from_length block (suc k) i = ap suc (from_length block k (i + 1))

-- one pointer more at the end
from_more : (block : List ℕ) (k i : ℕ) → pointers_from block (suc k) i ≡ pointers_from block k i ++ (pointer_in block (i + k) ∷ [])
unfolding pointers_from
from_more block zero i = let z : i + 0 ≡ i = omega arith in rw z
from_more block (suc k) i =
    let z : i + 1 + k ≡ i + suc k = omega arith in
    ap (λ (ps : List Pointer). pointer_in block i ∷ ps) (from_more block k (i + 1) ∙ rw z)

pub kept_length : (block : List ℕ) (n : ℕ) → n ≤ 30 → length (kept block n) ≡ 30
unfolding kept
kept_length block n h =
    length-append (pointers_from block n 0) (replicate (30 - n) no_pointer) ∙ rw (from_length block n 0, length-replicate (30 - n) no_pointer) (omega arith)

pub kept_none : (block : List ℕ) → replicate 30 no_pointer ≡ kept block 0
unfolding kept pointers_from
kept_none block = refl

pub kept_more : (block : List ℕ) (i : ℕ) → i < 30 → set (kept block i) i (pointer_in block i) ≡ kept block (i + 1)
unfolding kept
kept_more block i h =
    let left : 30 - i ≡ suc (30 - (i + 1)) = left_step h in
    let one : i + 1 ≡ suc i = omega arith in
    let z : 0 + i ≡ i = omega arith in
    rw (left, set_at (pointers_from block i 0) no_pointer (replicate (30 - (i + 1)) no_pointer) (pointer_in block i) i (from_length block i 0))
    (rw (one, from_more block i 0, z) (sym (append_snoc (pointers_from block i 0) (pointer_in block i) (replicate (30 - suc i) no_pointer))))
