-- Rule 7.13: of the list that comes with the question for all rows only the length changes the answer: `length_decides`.
-- Rests on the cases of `rows_answer` (export/Rows).
use mathlib.Core.Path.{◌≡◌, refl, sym, ap, ◌∙◌}
use mathlib.Core.List.{◌++◌}
use Prim.Native.Nat.{ℕ, ◌≤◌}
use lib.ListN.{length, drop, length-map}
use lib.Dec.{ltb}
use borrow.Author.Tests.{ltb-false}
use Rattle.lists.specs.Alias.{Places}
use Rattle.refusal.specs.Answer.{given, refused}
use Rattle.page.specs.Found.{Rows, place_of, places}
use Rattle.chain.specs.Walk.{Progress, Walk, full, waiting}
use Rattle.chain.specs.Tally.{rows_counted}
use Rattle.export.specs.Rows.{rows_written, rows_found, rows_answer, list_after, settle_rows}
use Rattle.depend.specs.Depend.{SameRows}
use Rattle.lists.proofs.Sets.{written_front}
use Rattle.lists.proofs.Choice.{on, never}

-- rows that are answered are all written, and fit
answered : (list : Places) (w : Walk Rows) (p : Progress ℕ) → rows_answer list w ≡ given p
    → (rows_counted p ≡ length (rows_found w)) × (length (rows_found w) ≤ length list)
answered list (given (full rows pages)) p e =
    on (ltb (length list) (length rows)) (λ h. never (cc (rw h at e)))
    (λ h. let same : p ≡ full (length rows) pages = cc (rw h at e) in (ap rows_counted same, ltb-false (length list) (length rows) h))
answered list (given (waiting page rows pages)) p e =
    on (ltb (length list) (length rows)) (λ h. never (cc (rw h at e)))
    (λ h. let same : p ≡ waiting page (length rows) pages = cc (rw h at e) in (ap rows_counted same, ltb-false (length list) (length rows) h))
answered list (refused f) p e = never (cc)

module _ (size : ℕ) (list other : Places) (long : length list ≡ length other) (w : Walk Rows) where
  same_answer : rows_answer list w ≡ rows_answer other w
  same_answer = rw long

  same_after : (a : Walk ℕ) → rows_answer list w ≡ a → drop (rows_written a) list ≡ drop (rows_written a) other → list_after size list w a ≡ list_after size other w a
  same_after (given p) e rest =
      let known = answered list w p e in
      let found = places size (rows_found w) in
      let many : rows_counted p ≡ length found = known.0 ∙ sym (length-map (rows_found w) (place_of size)) in
      let fits : length found ≤ length list = rw (sym (length-map (rows_found w) (place_of size))) at known.1 in
      written_front list found fits ∙ ap (λ (behind : Places). found ++ behind) (rw many at rest)
      ∙ sym (written_front other found (rw long at fits))
  same_after (refused f) e rest = rest

  pub length_decides : SameRows list other (settle_rows size list w) (settle_rows size other w)
  length_decides =
      record {
        answer = same_answer;
        after = λ rest. same_after (rows_answer list w) refl rest ∙ ap (list_after size other w) same_answer;
      }
