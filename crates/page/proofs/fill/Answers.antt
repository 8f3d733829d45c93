-- `page::fill` meets its contract: the entries whose rows are written are those of `row_entries`.
use mathlib.Core.Path.{sym, ◌∙◌, refl}
use Prim.Native.Nat.{ℕ, ◌+◌}
use native.Mathlib.Omega.{arith}
use lib.ListN.{length-map}
use Rattle.page.specs.Index.{row_start, present_from}
use Rattle.page.proofs.RowEntries.{entries_kept, entries_none, places_low, places_high}
use Rattle.page.proofs.fill.Goals as goal

pub returns-then-start : goal.returns-then-start
returns-then-start c =
    let a = c.args in
    rw (places_high a.page.now a.start (omega arith)) (refl, refl)

pub returns-in-Some : goal.returns-in-Some
returns-in-Some c =
    let a = c.args in
    let index = c.in-Some.index in
    let wrote = c.fill_rows.ensures in
    let kept = entries_kept a.page.now c.of_rows.ensures c.in-Some.is in
    rw (places_low a.page.now a.start (omega arith), kept.1, ← kept.0)
    (wrote.0 ∙ sym (length-map (present_from index.page index.entries 0) (λ (i : ℕ). a.start + row_start index.page i)), wrote.1)

pub returns-in-None : goal.returns-in-None
returns-in-None c =
    let a = c.args in
    rw (places_low a.page.now a.start (omega arith), entries_none a.page.now c.of_rows.ensures c.in-None.is) (refl, refl)
