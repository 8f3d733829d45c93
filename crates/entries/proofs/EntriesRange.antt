-- Rules 14.12 and 14.22: judging entries of any width by their numbers, by any test, gives the verdict on them all: `every_range` for a list of
-- numbers, and `every_from_all` for what `all` answers over a range, where the closure tests the entry of each number.
use mathlib.Core.Path.{◌≡◌, refl, ◌∙◌}
use mathlib.Core.Bool.{Bool, true, false}
use mathlib.Core.List.{List}
use Prim.Native.Nat.{ℕ, zero, suc, ◌+◌}
use native.Mathlib.Omega.{arith}
use denote.Param.Members.{Mut}
use Rattle.std.specs.Prelude.{Option}
use Rattle.std.specs.Fn.{Called}
use Rattle.std.specs.Iterator.{YieldsThen}
use Rattle.std.specs.List.{list_all, range_with_len, FoldsTo}
use Rattle.std.specs.Option.{MatchOption}
use Rattle.std.specs.declared.ops.Range.{Range}
use Rattle.std.proofs.iter.Yields.{nat_range_steps}
use Rattle.std.proofs.lemmas.Iterator.{YieldsList-from_range}
use Rattle.std.proofs.lemmas.Iterator.Search.{all_from_yields_List}
use Rattle.lists.specs.Alias.{Bytes}
use Rattle.entries.specs.Entries.{entry, entries_from, entries}
use Rattle.entries.specs.Every.{every_entry}

every_range : (test : Bytes → Bool) (width : ℕ) (tag : Bytes) (left k : ℕ)
    → list_all (λ (i : ℕ). test (entry width tag i)) (range_with_len k left) ≡ every_entry test (entries_from width tag left k)
unfolding entries_from every_entry
every_range test width tag zero k = refl
every_range test width tag (suc left) k = rw (every_range test width tag left (k + 1))

pub every_from_all : {F : Type 0} {g : Mut F (ℕ × Unit {0}) Bool} {s : Range ℕ} (test : Bytes → Bool) (width count : ℕ) (tag : Bytes) (u : Range ℕ) (f : F) (r : Bool)
    → (xs : List ℕ) × (o : Option ℕ) × (j : F) × YieldsThen nat_range_steps s xs o u × FoldsTo (λ p x q. Called g p (x, tt) true q) f xs j
    × MatchOption o (r ≡ true) (λ x. (r ≡ false) × ((h : F) × Called g j (x, tt) false h))
    → s ≡ record { start = 0; end = count } → ((k : ℕ) (b : Bool) (q : F) → Called g f (k, tt) b q → (q ≡ f) × (b ≡ test (entry width tag k)))
    → r ≡ every_entry test (entries width count tag)
every_from_all test width count tag u f r ran e closure =
    all_from_yields_List (λ k. test (entry width tag k)) u f r ran (YieldsList-from_range 0 count count e (omega arith)) closure
    ∙ every_range test width tag count 0
