-- Rules 5.3 to 5.7: the row index one entry at a time, and that an entry of an index that fits stands inside the page.
use mathlib.Core.Path.{◌≡◌, ap}
use mathlib.Core.Bool.{true, false}
use mathlib.Core.List.{List, [], ◌∷◌}
use Prim.Native.Nat.{ℕ, zero, suc, ◌+◌, ◌-◌, ◌*◌, ◌/◌, ◌%◌, ◌<◌, ◌≤◌}
use native.Mathlib.Omega.{arith}
use lib.ListN.{length}
use lib.Dec.{eqb}
use borrow.Author.Tests.{eqb-true}
use Rattle.lists.specs.Alias.{Bytes}
use Rattle.format.specs.Size.{group_size}
use Rattle.page.specs.Index.{index_size, present, present_from}
use Rattle.page.specs.Private.{PageIndex}
use Rattle.lists.proofs.Choice.{on, cond_holds, left_step}

-- entry i's flags and offset lie in an index of more than i entries
pub entry_room : (n i : ℕ) → i < n → group_size * (i / 16) + 6 + 2 * (i % 16) ≤ index_size n
unfolding index_size
entry_room n i h = on (eqb (n % 16) 0) (λ e. let z = eqb-true (n % 16) 0 e in rw e (omega arith)) (λ e. rw e (omega arith))

-- the number of entries that the code reads is that of the index that it shows
pub held : {page : Bytes} {n : ℕ} {index : PageIndex} → record { page = page; entries = n } ≡ index → n ≡ index.entries
held view = ap (λ (index : PageIndex). index.entries) view

-- so they lie in the page, by what the code knows of an index: what it shows, and that it fits
pub held_room : {page : Bytes} {n i : ℕ} {index : PageIndex} → record { page = page; entries = n } ≡ index → index_size n ≤ length page → i < index.entries
    → group_size * (i / 16) + 6 + 2 * (i % 16) ≤ length page
held_room {n = n} {i = i} view fits h = omega (arith, fits, entry_room n i (rw (← view) at h))

pub index_bound : (n : ℕ) → n < 65536 → index_size n ≤ 0x40000
unfolding index_size
index_bound n h = on (eqb (n % 16) 0) (λ e. rw e (omega arith)) (λ e. rw e (omega arith))

-- the present entries from entry i on, by whether entry i is present
pub entry_absent : (page : Bytes) {n i : ℕ} → i < n → present page i ≡ false → present_from page (n - i) i ≡ present_from page (n - (i + 1)) (i + 1)
unfolding present_from
entry_absent page h e = rw (left_step h, e)

pub entry_present : (page : Bytes) {n i : ℕ} → i < n → present page i ≡ true
    → present_from page (n - i) i ≡ i ∷ present_from page (n - (i + 1)) (i + 1)
unfolding present_from
entry_present page h e = rw (left_step h, e)

pub entry_none : (page : Bytes) (n i : ℕ) → n ≤ i → present_from page (n - i) i ≡ []
unfolding present_from
entry_none page n i h = let e : n - i ≡ 0 = omega arith in rw e

-- there are no more of them than entries
pub few_present : (page : Bytes) (k i : ℕ) → length (present_from page k i) ≤ k
unfolding present_from
few_present page zero i = omega arith
few_present page (suc k) i =
    let h = few_present page k (i + 1) in
    cond_holds (λ (l : List ℕ). length l ≤ suc k) (present page i) (λ e. omega arith) (λ e. omega arith)
