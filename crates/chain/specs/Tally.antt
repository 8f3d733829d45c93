-- Rule 4.8: what a walk counts, and what its result in the code stands for.
use Rattle.std.specs.Prelude.{Result, ℕ, length}
use Rattle.refusal.specs.declared.Refusal.{Refusal}
use Rattle.refusal.specs.Answer.{given, refused, answer_as}
use Rattle.page.specs.Found.{Rows}
use Rattle.chain.specs.declared.Walked.{Walked}
use Rattle.chain.specs.declared.Walked.TheVariants.{Full, Waiting}
use Rattle.chain.specs.Walk.{Progress, Walk, full, waiting}

-- the number of rows found
abbrev pub rows_counted : Progress ℕ → ℕ
rows_counted (full rows pages) = rows
rows_counted (waiting page rows pages) = rows

-- the number of pages walked
abbrev pub pages_counted : Progress ℕ → ℕ
pages_counted (full rows pages) = pages
pages_counted (waiting page rows pages) = pages

-- the rows found by their number
abbrev pub tally : Walk Rows → Walk ℕ
tally (given (full rows pages)) = given (full (length rows) pages)
tally (given (waiting page rows pages)) = given (waiting page (length rows) pages)
tally (refused f) = refused f

abbrev pub progress_of : Walked → Progress ℕ
progress_of (Full rows pages) = full rows pages
progress_of (Waiting page rows pages) = waiting page rows pages

abbrev pub walked_of : Result Walked Refusal → Walk ℕ
walked_of = answer_as progress_of
