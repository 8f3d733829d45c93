-- Rules 8.19 to 8.21: in a run, held and missing blocks, the layout and a table's bounds are those of the received blocks.
use Rattle.std.specs.Prelude.{◌≡◌, true, not, ◌&&◌, List, ◌++◌, ℕ, ◌-◌, ltb}
use Rattle.std.proofs.Math.Option.{Option, none, some}
use Rattle.lists.specs.Alias.{Bytes}
use Rattle.lists.specs.First.{first_from}
use Rattle.refusal.specs.Answer.{Answer, given, and_then}
use Rattle.table.specs.Table.{table_of}
use Rattle.bitmap.specs.Words.{block_count}
use Rattle.intake.specs.Memory.{Memory}
use Rattle.intake.specs.Missing.{held, next_missing}
use Rattle.chain.specs.Found.{Found, found, waiting}
use Rattle.export.specs.Layout.{layout_in, bounds_in, ask_layout, ask_bounds}
use Rattle.run.specs.Received.{Received, has}
use Rattle.run.specs.Call.{Call}
use Rattle.run.specs.Run.{Opens, run_memory, run_received}
use Rattle.run.specs.FromList.{NotWaiting}

-- what block 0 tells, once it is received
abbrev pub once_received : {A : Type 0} (first : Option Bytes) (told : Bytes → Answer A) → Answer (Found A)
once_received none told = given (waiting 0 0 0)
once_received (some block) told = and_then (told block) (λ x. given (found x))

pub record Fetches (len : ℕ) (r : Received) (m : Memory) : Type 0 where
  -- Rule 8.19
  pub holds : (b : ℕ) → held len m.map b ≡ (ltb b (block_count len) && has (r b))
  pub missing : (from : ℕ) → next_missing len m.map from ≡ first_from (λ (b : ℕ). not (has (r b))) (block_count len - from) from
  -- Rule 8.20
  pub layout : ask_layout len m ≡ once_received (r 0) (layout_in len)
  pub bounds : (number : ℕ) → ask_bounds len m number ≡ and_then (table_of number) (λ table. once_received (r 0) (λ block. bounds_in len block table))

-- Rule 8.21: at a later place of the run
pub record KeepsFetched (len : ℕ) (earlier later : Memory) : Type 0 where
  pub holds : (b : ℕ) → held len earlier.map b ≡ true → held len later.map b ≡ true
  pub layout : NotWaiting (ask_layout len earlier) → ask_layout len later ≡ ask_layout len earlier
  pub bounds : (number : ℕ) → NotWaiting (ask_bounds len earlier number) → ask_bounds len later number ≡ ask_bounds len earlier number

abbrev pub EveryRunFetches : Type 0
EveryRunFetches = (len : ℕ) (before : Memory) → Opens len before → (calls : List Call)
    → Fetches len (run_received len calls) (run_memory len before calls)
    × ((later : List Call) → KeepsFetched len (run_memory len before calls) (run_memory len before (calls ++ later)))
