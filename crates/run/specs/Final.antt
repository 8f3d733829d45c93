-- Rule 8.22: at any later place of a run, a table once answered in full is answered so again, with the same list afterwards.
use Rattle.std.specs.Prelude.{◌≡◌, List, ◌++◌, ℕ}
use Rattle.lists.specs.Alias.{Places}
use Rattle.refusal.specs.Answer.{given}
use Rattle.intake.specs.Memory.{Memory}
use Rattle.chain.specs.Walk.{full}
use Rattle.export.specs.Rows.{ask_rows}
use Rattle.run.specs.Call.{Call}
use Rattle.run.specs.Run.{Opens, run_memory}

pub record KeepsFull (len : ℕ) (earlier later : Memory) : Type 0 where
  pub final : (table : ℕ) (list : Places) {rows pages : ℕ} → (ask_rows len earlier table list).answer ≡ given (full rows pages)
      → ask_rows len later table list ≡ ask_rows len earlier table list

abbrev pub EveryRunKeepsFull : Type 0
EveryRunKeepsFull = (len : ℕ) (before : Memory) → Opens len before → (calls later : List Call)
    → KeepsFull len (run_memory len before calls) (run_memory len before (calls ++ later))
