-- Section 7 as one theorem about the three questions (`EveryQuestion`): what the answer, and the list afterwards, may depend on.
-- Rests on the relevant bytes (specs/Bytes) and on those that are unread (specs/Unread).
use Rattle.std.specs.Prelude.{◌≡◌, not, ℕ, length, drop}
use Rattle.lists.specs.Alias.{Bytes, Words, Places}
use Rattle.number.specs.Agree.{DecidedBy}
use Rattle.intake.specs.Memory.{memory}
use Rattle.intake.specs.InUse.{SameInUse}
use Rattle.export.specs.Rows.{RowsOutcome, rows_written, ask_rows}
use Rattle.run.specs.Call.{Question, CallReply, answer}
use Rattle.depend.specs.Bytes.{relevant}
use Rattle.depend.specs.Unread.{held_byte, unread_for}

-- what a question answers over this image with this map; for all rows also the list afterwards
abbrev pub answer_on : (len : ℕ) (map : Words) (q : Question) (image : Bytes) → CallReply
answer_on len map q image = answer len (memory image map) q

-- Rule 7.13: two questions with these lists answer alike; where the lists agree behind the rows written, so do they afterwards
pub record SameRows (list other : Places) (a b : RowsOutcome) : Type 0 where
  pub answer : a.answer ≡ b.answer
  pub after : drop (rows_written a.answer) list ≡ drop (rows_written a.answer) other → a.list ≡ b.list

pub record Dependence (len : ℕ) (map : Words) (q : Question) (image : Bytes) : Type 0 where
  -- Rules 7.1 to 7.7 and 7.12
  pub those : DecidedBy (relevant len (memory image map) q) (answer_on len map q) image
  -- Rule 7.9
  pub held : DecidedBy (held_byte len map) (answer_on len map q) image
  -- Rule 7.10
  pub others : DecidedBy (λ (i : ℕ). not (unread_for len (memory image map) q i)) (answer_on len map q) image
  -- Rule 7.11
  pub in_use : (other : Bytes) (words : Words) → SameInUse len (memory image map) (memory other words) → answer_on len map q image ≡ answer_on len words q other
  -- Rule 7.13
  pub lists : (table : ℕ) (list other : Places) → length list ≡ length other
      → SameRows list other (ask_rows len (memory image map) table list) (ask_rows len (memory image map) table other)

-- for every length, map, question and image
abbrev pub EveryQuestion : Type 0
EveryQuestion = (len : ℕ) (map : Words) (q : Question) (image : Bytes) → Dependence len map q image
