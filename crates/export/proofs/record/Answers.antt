-- `export::record` meets its contract: the table asked for chooses the case of `ask_record`, and the answer goes by the row (proofs/RowAnswer).
use mathlib.Core.Path.{ap, ◌∙◌}
use borrow.Author.Rules.{rules}
use Rattle.std.proofs.lemmas.Result.{err_from_is_err_and}
use Rattle.refusal.specs.Answer.{Answer}
use Rattle.intake.specs.Memory.{memory_of}
use Rattle.chain.specs.Found.{Found, then_found}
use Rattle.table_walk.specs.Walk.{page_size, table_walk}
use Rattle.export.specs.declared.SizedRow.{SizedRow}
use Rattle.export.specs.Record.{record_on_of, ask_record}
use Rattle.export.specs.Private.{record_in}
use Rattle.table_walk.proofs.AskedTable.{asked_sound}
use Rattle.chain.proofs.ReplyThen.{map_then}
use Rattle.export.proofs.RowAnswer.{by_row}
use Rattle.export.proofs.record.Goals as goal

pub returns-in_err-table : goal.returns-in_err-table
unfolding ask_record
returns-in_err-table c =
    let passed = err_from_is_err_and c.from_residual.result c.from_residual.ensures.1 in
    rw (passed.1, passed.2, ← c.in_err-table.ensures)

pub invariant_of-file : goal.invariant_of-file
invariant_of-file c =
    let a = c.args in
    record { sound = asked_sound a.intake.len (memory_of a.memory) a.number c.in_ok-table.ensures }

pub returns-in_err-find_row : goal.returns-in_err-find_row
unfolding ask_record
returns-in_err-find_row c =
    let a = c.args in
    let m = memory_of a.memory in
    let table = c.in_ok-table.table in
    let passed = err_from_is_err_and c.from_residual-in_err-find_row.result c.from_residual-in_err-find_row.ensures.1 in
    rw (passed.1, passed.2, ← c.in_ok-table.ensures)
    (ap (λ (x : Answer (Found SizedRow)). then_found x (record_in table a.memory.image.now)) c.in_err-find_row.ensures
    ∙ by_row (page_size m) a.k (record_in table a.memory.image.now) (table_walk a.intake.len m table))

pub returns : goal.returns
unfolding ask_record
returns c =
    let a = c.args in
    let m = memory_of a.memory in
    let table = c.in_ok-table.table in
    rw (← c.in_ok-table.ensures)
    (map_then (λ (at : SizedRow). at) record_on_of (record_in table a.memory.image.now) _ c.in_ok-find_row.field-0 c.map_found.result c.map_found.ensures (λ x y q. search rules)
    ∙ ap (λ (x : Answer (Found SizedRow)). then_found x (record_in table a.memory.image.now)) c.in_ok-find_row.ensures
    ∙ by_row (page_size m) a.k (record_in table a.memory.image.now) (table_walk a.intake.len m table))
