-- Runs of stores to a list (`sets`): into a part of it, one run after another, and past its end.
--     sets_append      two runs, one behind the other
--     sets_past        a run past the end changes nothing
--     written_front    a run to the front, which fits
--     put_rest         a run into the part from an index on, which `&mut list[at..]` borrows
use mathlib.Core.Path.{◌≡◌, refl, ap, sym, ◌∙◌}
use mathlib.Core.List.{List, [], ◌∷◌, ◌++◌, append-nil}
use Prim.Native.Nat.{ℕ, suc, ◌+◌, ◌-◌, ◌≤◌}
use native.Mathlib.Nat.{zero-add, suc-add, add-suc, add-zero}
use native.Mathlib.Omega.{arith}
use lib.ListN.{length, take, drop, set, length-drop, take-append-drop, drop_of_length-le}
use lib.Seq.{sets, sets-eq, set_out, length-take-le}
use borrow.Rule.Slice.PartMut.{put_mid}
use Rattle.lists.specs.Write.{written}
use Rattle.lists.proofs.Part.{part_rest}

pub sets_append : (list : List ℕ) (at : ℕ) (rows more : List ℕ) → sets list at (rows ++ more) ≡ sets (sets list at rows) (at + length rows) more
sets_append list at [] more = rw (add-zero at)
sets_append list at (row ∷ rows) more = rw (add-suc at (length rows), ← suc-add at (length rows)) (sets_append (set list at row) (suc at) rows more)

pub sets_past : (list : List ℕ) (at : ℕ) (rows : List ℕ) → length list ≤ at → sets list at rows ≡ list
sets_past list at [] h = refl
sets_past list at (row ∷ rows) h = rw (set_out list at row h) (sets_past list (suc at) rows (omega arith))

pub written_front : (list rows : List ℕ) → length rows ≤ length list → written list rows ≡ rows ++ drop (length rows) list
written_front list rows h = rw (zero-add (length rows)) at (sets-eq rows list 0 (omega arith))

set_behind : (front list : List ℕ) (at row : ℕ) → set (front ++ list) (length front + at) row ≡ front ++ set list at row
set_behind [] list at row = rw (zero-add at)
set_behind (x ∷ front) list at row = rw (suc-add (length front) at) (ap (λ (l : List ℕ). x ∷ l) (set_behind front list at row))

sets_behind : (front list : List ℕ) (at : ℕ) (rows : List ℕ) → sets (front ++ list) (length front + at) rows ≡ front ++ sets list at rows
sets_behind front list at [] = refl
sets_behind front list at (row ∷ rows) = rw (set_behind front list at row, ← add-suc (length front) at) (sets_behind front (set list at row) (suc at) rows)

put_sets : (list : List ℕ) (at : ℕ) (rows : List ℕ) → at ≤ length list → put_mid at (length list - at) list (sets (drop at list) 0 rows) ≡ sets list at rows
put_sets list at rows h =
    let none : drop (length list - at) (drop at list) ≡ [] = drop_of_length-le (drop at list) {i = length list - at} (omega (arith, length-drop at list)) in
    rw (none, append-nil (sets (drop at list) 0 rows))
    (sym (sets_behind (take at list) (drop at list) 0 rows) ∙ rw (take-append-drop at list, length-take-le at list h, add-zero at))

pub put_rest : (list : List ℕ) (at : ℕ) (rows : List ℕ) {part : List ℕ} → at ≤ length list → part ≡ sets (take (length list - at) (drop at list)) 0 rows
    → put_mid at (length list - at) list part ≡ sets list at rows
put_rest list at rows h e = ap (put_mid at (length list - at) list) (rw (part_rest list at) at e) ∙ put_sets list at rows h
