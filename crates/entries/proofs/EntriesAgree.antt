-- Rules 14.17, 14.18 and 14.30: tags of one length are both filled or not (`fills_agree`); those that agree on bytes of an entry have entries
-- that do (`entry_agree`); and where such bytes decide a test, tags that agree on them in each entry give the same verdict (`every_agree`).
-- All bytes of entries stand from `18` on (`entries_behind`). For every width.
use mathlib.Core.Path.{◌≡◌, refl, sym, ◌∙◌}
use mathlib.Core.Bool.{Bool, true, false≢true}
use Prim.Native.Nat.{ℕ, zero, suc, ◌+◌, ◌<◌, ◌≤◌}
use native.Mathlib.Omega.{arith}
use Rattle.lists.specs.Alias.{Bytes}
use lib.Dec.{leb}
use borrow.Author.Tests.{leb-true, leb-false}
use Rattle.lists.proofs.Any.{any_at, any_none}
use Rattle.lists.proofs.Choice.{on}
use Rattle.number.specs.Agree.{Agree, DecidedBy}
use Rattle.number.proofs.NumberAgree.{within_both, agree_less, in_part_agree, in_part_within}
use Rattle.entries.specs.Entries.{entries_start, entry_at, entry, fills, entries_from, entries}
use Rattle.entries.specs.Every.{every_entry}
use Rattle.entries.specs.Bytes.{in_entry, in_entries}

pub among_entries : (test : ℕ → Bool) (width count k : ℕ) → k < count → (i : ℕ) → in_entry test width k i ≡ true → in_entries test width count i ≡ true
unfolding in_entries
among_entries test width count k h i e = any_at (λ (j : ℕ). in_entry test width j i) count 0 k (omega arith) (omega arith) e

pub fills_agree : {p : ℕ → Bool} {s t : Bytes} (width count : ℕ) → Agree p s t → fills width count s ≡ fills width count t
unfolding fills
fills_agree width count a = rw a.long

module _ {s t : Bytes} (test : ℕ → Bool) (width : ℕ) where
  pub entry_agree : (k : ℕ) → Agree (in_entry test width k) s t → Agree test (entry width s k) (entry width t k)
  entry_agree k a = in_part_agree test (entry_at width k) width a

  module _ (pass : Bytes → Bool) (decided : (entry : Bytes) → DecidedBy test pass entry) (count : ℕ) (a : Agree (in_entries test width count) s t) where
    from_agree : (left k : ℕ) → k + left ≤ count → every_entry pass (entries_from width s left k) ≡ every_entry pass (entries_from width t left k)
    unfolding entries_from every_entry
    from_agree zero k h = refl
    from_agree (suc left) k h =
        let here = agree_less (among_entries test width count k (omega arith)) a in
        rw (decided (entry width s k) (entry width t k) (entry_agree k here), from_agree left (k + 1) (omega arith))

    pub every_agree : every_entry pass (entries width count s) ≡ every_entry pass (entries width count t)
    every_agree = from_agree count 0 (omega arith)

-- no byte of an entry stands before byte `18`
pub entry_behind : (test : ℕ → Bool) (width k i : ℕ) → in_entry test width k i ≡ true → entries_start ≤ i
entry_behind test width k i e = omega (arith, within_both (entry_at width k) width i (in_part_within test (entry_at width k) width i e))

pub entries_behind : (test : ℕ → Bool) (width count i : ℕ) → in_entries test width count i ≡ true → entries_start ≤ i
unfolding in_entries
entries_behind test width count i e =
    on (leb entries_start i) (leb-true entries_start i)
    (λ h.
    let before = leb-false entries_start i h in
    absurd (false≢true (sym (any_none _ count 0 (λ j l m. on (in_entry test width j i) (λ q. absurd (omega (arith, entry_behind test width j i q))) (λ q. q))) ∙ e)))
