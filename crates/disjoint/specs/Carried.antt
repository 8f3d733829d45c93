-- Rules 4.8 and 5.24: the number of pages walked that an answer carries, if it carries one.
use Rattle.std.specs.Prelude.{List, [], ◌∷◌, ℕ, ◌+◌}
use Rattle.std.proofs.Math.Option.{Option, none, some}
use Rattle.refusal.specs.Answer.{Answer, given, refused}
use Rattle.chain.specs.Walk.{Walk, full, waiting}
use Rattle.chain.specs.Found as found
use Rattle.run.specs.Call as call
use Rattle.run.specs.Call.{CallReply}

abbrev pub pages_in_walk : {A : Type 0} → Walk A → Option ℕ
pages_in_walk (given (full rows pages)) = some pages
pages_in_walk (given (waiting page rows pages)) = some pages
pages_in_walk (refused f) = none

-- of a record or a string that is asked for only Waiting carries one
abbrev pub pages_in_found : {A : Type 0} → Answer (found.Found A) → Option ℕ
pages_in_found (given (found.found x)) = none
pages_in_found (given (found.waiting page rows pages)) = some pages
pages_in_found (refused f) = none

abbrev pub pages_in_reply : CallReply → Option ℕ
pages_in_reply (call.delivered a) = none
pages_in_reply (call.delivered_packet a results) = none
pages_in_reply (call.rows o) = pages_in_walk o.answer
pages_in_reply (call.row a) = pages_in_found a
pages_in_reply (call.text a) = pages_in_found a

-- the numbers that there are, added up
abbrev pub total : List (Option ℕ) → ℕ
total [] = 0
total (none ∷ rest) = total rest
total (some n ∷ rest) = n + total rest
