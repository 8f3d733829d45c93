-- The question for all rows, from what the walk counted: which case of `settle_rows` it is. Rule 5.20.
--     rows_long     the list is long enough
use mathlib.Core.Path.{◌≡◌}
use Prim.Native.Nat.{ℕ, ◌≤◌}
use lib.ListN.{length}
use borrow.Author.Tests.{le-ltb}
use Rattle.lists.specs.Alias.{Places}
use Rattle.lists.specs.Write.{written}
use Rattle.refusal.specs.Answer.{given, refused}
use Rattle.page.specs.Found.{Rows}
use Rattle.chain.specs.Walk.{Progress, Walk, full, waiting}
use Rattle.chain.specs.Tally.{rows_counted, pages_counted, tally}
use Rattle.export.specs.Rows.{rows_outcome, settle_rows}
use Rattle.lists.proofs.Choice.{never}
use Rattle.chain.proofs.ChainPlaces.{Placed}

module _ (size : ℕ) (list : Places) {progress : Progress ℕ} where
  pub rows_long : (rows_of : ℕ → Rows) (places_of : ℕ → Places) {after : Places} (w : Walk Rows) → given progress ≡ tally w → rows_counted progress ≤ length list
      → Placed size rows_of places_of w → after ≡ written list (places_of (pages_counted progress)) → rows_outcome (given progress) after ≡ settle_rows size list w
  rows_long rows_of places_of (given (full rows k)) e h p a =
      let same : progress ≡ full (length rows) k = cc in
      rw (a, same, le-ltb (length list) (length rows) (rw same at h), p.1)
  rows_long rows_of places_of (given (waiting page rows k)) e h p a =
      let same : progress ≡ waiting page (length rows) k = cc in
      rw (a, same, le-ltb (length list) (length rows) (rw same at h), p.1)
  rows_long rows_of places_of (refused f) e h p a = never (cc)
