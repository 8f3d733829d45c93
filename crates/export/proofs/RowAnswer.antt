-- The question for one row, from what the walk counted: which case of `settle_row` it is. Rules 5.23 and 5.24.
--     row_found     row k is among the rows found
--     by_row        any answer about a row goes by the row
use mathlib.Core.Path.{◌≡◌, refl}
use Prim.Native.Nat.{ℕ, ◌<◌}
use lib.ListN.{length}
use lib.Dec.{ltb}
use borrow.Author.Tests.{lt-ltb}
use Rattle.lists.specs.Alias.{Places}
use Rattle.page.specs.declared.Row.{Row}
use Rattle.page.specs.Found.{Rows, no_row}
use Rattle.lists.specs.Nth.{nth}
use Rattle.refusal.specs.Answer.{Answer, given, refused}
use Rattle.chain.specs.Walk.{Progress, Walk, full, waiting}
use Rattle.chain.specs.Tally.{rows_counted, pages_counted, tally}
use Rattle.chain.specs.Found as row
use Rattle.export.specs.Row.{settle_row}
use Rattle.export.specs.declared.SizedRow.{SizedRow}
use Rattle.export.specs.Private.{sized_row, row_at, at_row}
use Rattle.lists.proofs.Choice.{on, never}
use Rattle.chain.proofs.ChainPlaces.{Placed}

module _ (size k : ℕ) where
  pub row_found : (rows_of : ℕ → Rows) (places_of : ℕ → Places) (w : Walk Rows) {progress : Progress ℕ} → given progress ≡ tally w
      → k < rows_counted progress → Placed size rows_of places_of w → at_row size (nth no_row (rows_of (pages_counted progress)) k 0) ≡ settle_row (row_at size) k w
  row_found rows_of places_of (given (full rows q)) {progress} e h p =
      let same : progress ≡ full (length rows) q = cc in
      rw (same, p.0, lt-ltb k (length rows) (rw same at h))
  row_found rows_of places_of (given (waiting page rows q)) {progress} e h p =
      let same : progress ≡ waiting page (length rows) q = cc in
      rw (same, p.0, lt-ltb k (length rows) (rw same at h))
  row_found rows_of places_of (refused f) e h p = never (cc)

  pub by_row : {A : Type 0} (answer : SizedRow → Answer (row.Found A)) (w : Walk Rows)
      → row.then_found (settle_row (row_at size) k w) answer ≡ settle_row (λ (found : Row). answer (sized_row size found)) k w
  by_row answer (given (full rows q)) = on (ltb k (length rows)) (λ h. rw h) (λ h. rw h)
  by_row answer (given (waiting page rows q)) = on (ltb k (length rows)) (λ h. rw h) (λ h. rw h)
  by_row answer (refused f) = refl
