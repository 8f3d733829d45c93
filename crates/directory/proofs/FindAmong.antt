-- The library's `find`, as `Directory::find` calls it, finds the pointer of a type that there is. Rule 3.11.
use mathlib.Core.Path.{◌≡◌, refl}
use mathlib.Core.List.{List, [], ◌∷◌}
use Prim.Native.Nat.{ℕ}
use lib.Dec.{eqb}
use Rattle.std.specs.Prelude.{Option}
use Rattle.std.specs.Option.{ok_or}
use Rattle.std.specs.List as std
use Rattle.refusal.specs.declared.Refusal.TheVariants.{NoPointer}
use Rattle.refusal.specs.Answer.{answer_of}
use Rattle.directory.specs.declared.Pointer.{Pointer}
use Rattle.directory.specs.Chain.{pointer_among}
use Rattle.lists.proofs.Choice.{on}

find_among : (t : ℕ) (pointers : List Pointer) → answer_of (ok_or (std.find (λ (p : Pointer). eqb p.table_type t) pointers) NoPointer) ≡ pointer_among t pointers
unfolding pointer_among
find_among t [] = refl
find_among t (p ∷ ps) = on (eqb p.table_type t) (λ e. rw e) (λ e. rw e (find_among t ps))

pub among_found : {o : Option Pointer} (t : ℕ) (pointers : List Pointer) → o ≡ std.find (λ (p : Pointer). eqb p.table_type t) pointers
    → answer_of (ok_or o NoPointer) ≡ pointer_among t pointers
among_found t pointers e = rw e (find_among t pointers)
