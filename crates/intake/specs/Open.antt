-- Rule 1.11: opening, refused as rule 2.26 says.
use Rattle.std.specs.Prelude.{◌++◌, ℕ, drop, replicate, Result}
use Rattle.lists.specs.Alias.{Bytes, Words}
use Rattle.refusal.specs.Answer.{Answer, given, refused, answer_as}
use Rattle.refusal.specs.declared.Refusal.{Refusal}
use Rattle.bitmap.specs.Words.{block_count, word_count}
use Rattle.intake.specs.Check.{check_lengths}
use Rattle.intake.specs.declared.Opened.{Opened}

-- the length that the record holds, and the number of blocks
pub data OpenedFile : Type 0 where
  opened : (len blocks : ℕ) → OpenedFile

-- the answer, and the map afterwards
pub record Opening : Type 0 where
  pub answer : Answer OpenedFile
  pub map : Words

-- what the code's struct stands for
abbrev pub file_of : Opened → OpenedFile
file_of o = opened o.intake.len o.blocks

-- the answer that the code's result stands for
abbrev pub opened_of : Result Opened Refusal → Answer OpenedFile
opened_of r = answer_as file_of r

abbrev pub opening_of : Result Opened Refusal → Words → Opening
opening_of r map = record { answer = opened_of r; map = map }

-- the map with its words in use set to 0
unfoldable pub cleared : ℕ → Words → Words
cleared len map = replicate (word_count len) 0 ++ drop (word_count len) map

-- what an answer does to the map: nothing where it is a refusal (rule 2.22)
abbrev pub open_map : (len : ℕ) (map : Words) (answer : Answer OpenedFile) → Words
open_map len map (given file) = cleared len map
open_map len map (refused f) = map

abbrev pub open_answer : (len : ℕ) (image : Bytes) (map : Words) → Answer OpenedFile
open_answer len image map = check_lengths len image map (given (opened len (block_count len)))

unfoldable pub opening : (len : ℕ) (image : Bytes) (map : Words) → Opening
opening len image map = record { answer = open_answer len image map; map = open_map len map (open_answer len image map) }
