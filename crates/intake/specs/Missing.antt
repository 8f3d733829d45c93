-- Rules 1.23 and 1.24: the blocks of a file that are held, and the first that is not.
use Rattle.std.specs.Prelude.{Bool, ◌&&◌, not, ℕ, ◌-◌, ltb, Option as CodeOption, Some, None}
use Rattle.std.proofs.Math.Option.{Option, none, some}
use Rattle.lists.specs.Alias.{Words}
use Rattle.lists.specs.First.{first_from}
use Rattle.bitmap.specs.Words.{block_count}
use Rattle.bitmap.specs.Bit.{bit}

-- Rule 1.23: the file has the block, and its bit is one
unfoldable pub held : (len : ℕ) (map : Words) (block : ℕ) → Bool
held len map block = ltb block (block_count len) && bit map block

-- Rule 1.24: the first of the file's blocks from a number on whose bit is not one
unfoldable pub next_missing : (len : ℕ) (map : Words) (from : ℕ) → Option ℕ
next_missing len map from = first_from (λ (b : ℕ). not (bit map b)) (block_count len - from) from

-- the answer for each case of the code's option
abbrev pub missing_of : CodeOption ℕ → Option ℕ
missing_of (Some b) = some b
missing_of None = none
