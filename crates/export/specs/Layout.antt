-- What block 0 tells ahead of any walk: page length and number of pages of a file, and first and last page of a table.
-- Rules 3.15 and 3.16. Rests on the header and on `table_chain` of crate `directory`.
use Rattle.std.specs.Prelude.{Result, cond, not, ℕ, ◌/◌}
use Rattle.lists.specs.Alias.{Bytes}
use Rattle.refusal.specs.Fault.{fault}
use Rattle.refusal.specs.declared.Refusal.{Refusal}
use Rattle.refusal.specs.Answer.{Answer, given, refuse_if, and_then, answer_as}
use Rattle.table.specs.declared.Table.{Table}
use Rattle.bitmap.specs.Bit.{bit}
use Rattle.intake.specs.Memory.{Memory, block_at}
use Rattle.intake.specs.Check.{check_call}
use Rattle.directory.specs.declared.Chain.{Chain}
use Rattle.directory.specs.Header.{len_page, header_holds}
use Rattle.directory.specs.Chain.{table_chain}
use Rattle.chain.specs.Found as found
use Rattle.table_walk.specs.Asked.{asked_table}
use Rattle.export.specs.declared.FileLayout.{FileLayout}
use Rattle.chain.specs.declared.Reply.{Reply}
use Rattle.export.specs.declared.TableBounds.{TableBounds}

-- Rules 3.3 and 3.10: page length and P of a file of len bytes with this block 0
abbrev pub layout_in : (len : ℕ) (block : Bytes) → Answer FileLayout
layout_in len block =
    refuse_if (not (header_holds len block)) (fault 9 0)
    (given (record { len_page = len_page block; page_count = len / len_page block }))

abbrev pub bounds_of : Chain → TableBounds
bounds_of c = record { first_page = c.first_page; last_page = c.last_page }

-- Rule 3.14: first and last page of a table's chain
abbrev pub bounds_in : (len : ℕ) (block : Bytes) (table : Table) → Answer TableBounds
bounds_in len block table = and_then (table_chain len block table) (λ c. given (bounds_of c))

-- Rule 3.2: what block 0 tells, once it is held
abbrev pub once_held : {A : Type 0} (m : Memory) (told : Bytes → Answer A) → Answer (found.Found A)
once_held m told = cond (bit m.map 0) (and_then (told (block_at m.image 0)) (λ x. given (found.found x))) (given (found.waiting 0 0 0))

-- Rule 3.15
unfoldable pub ask_layout : (len : ℕ) (m : Memory) → Answer (found.Found FileLayout)
ask_layout len m = check_call len m (once_held m (layout_in len))

-- Rule 3.16
unfoldable pub ask_bounds : (len : ℕ) (m : Memory) (number : ℕ) → Answer (found.Found TableBounds)
ask_bounds len m number = and_then (asked_table len m number) (λ table. once_held m (λ block. bounds_in len block table))

-- what a result of the code stands for
abbrev pub layout_reply_of : Result (Reply FileLayout) Refusal → Answer (found.Found FileLayout)
layout_reply_of = answer_as (found.reply_of (λ (layout : FileLayout). layout))

abbrev pub bounds_reply_of : Result (Reply TableBounds) Refusal → Answer (found.Found TableBounds)
bounds_reply_of = answer_as (found.reply_of (λ (bounds : TableBounds). bounds))
