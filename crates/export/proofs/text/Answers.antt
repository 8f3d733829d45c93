-- `export::text` meets its contract: the table asked for chooses the case of `ask_text`, and the answer goes by the row (proofs/RowAnswer).
use mathlib.Core.Path.{ap, ◌∙◌}
use borrow.Author.Rules.{rules}
use Rattle.std.proofs.lemmas.Result.{err_from_is_err_and}
use Rattle.refusal.specs.Answer.{Answer}
use Rattle.intake.specs.Memory.{memory_of}
use Rattle.chain.specs.Found.{Found, then_found}
use Rattle.table_walk.specs.Asked.{asked_table}
use Rattle.table_walk.specs.Walk.{page_size, table_walk}
use Rattle.export.specs.declared.SizedRow.{SizedRow}
use Rattle.export.specs.Row.{settle_row}
use Rattle.export.specs.Text.{TextPlace, text_on, text_at, text_place_of, ask_text}
use Rattle.table_walk.proofs.AskedTable.{slot_sound, slot_then}
use Rattle.chain.proofs.ReplyThen.{follow_then}
use Rattle.export.proofs.RowAnswer.{by_row}
use Rattle.export.proofs.text.Goals as goal

pub returns-in_err-table : goal.returns-in_err-table
unfolding ask_text
returns-in_err-table c =
    let a = c.args in
    let m = memory_of a.memory in
    let passed = err_from_is_err_and c.from_residual.result c.from_residual.ensures.1 in
    rw (passed.1, passed.2, ← slot_then a.slot (λ table. settle_row (text_at m table a.slot) a.k (table_walk a.intake.len m table)) (asked_table a.intake.len m a.number), ← c.in_err-table.ensures)

pub invariant_of-file : goal.invariant_of-file
invariant_of-file c =
    let a = c.args in
    record { sound = slot_sound a.intake.len (memory_of a.memory) a.number a.slot c.in_ok-table.ensures }

pub returns-in_err-find_row : goal.returns-in_err-find_row
unfolding ask_text
returns-in_err-find_row c =
    let a = c.args in
    let m = memory_of a.memory in
    let table = c.in_ok-table.table in
    let answer : SizedRow → Answer (Found TextPlace) = λ at. text_on at.size a.memory.image.now table a.slot at.row in
    let passed = err_from_is_err_and c.from_residual-in_err-find_row.result c.from_residual-in_err-find_row.ensures.1 in
    rw (passed.1, passed.2, ← slot_then a.slot (λ table. settle_row (text_at m table a.slot) a.k (table_walk a.intake.len m table)) (asked_table a.intake.len m a.number), ← c.in_ok-table.ensures)
    (ap (λ (x : Answer (Found SizedRow)). then_found x answer) c.in_err-find_row.ensures
    ∙ by_row (page_size m) a.k answer (table_walk a.intake.len m table))

pub returns : goal.returns
unfolding ask_text
returns c =
    let a = c.args in
    let m = memory_of a.memory in
    let table = c.in_ok-table.table in
    let answer : SizedRow → Answer (Found TextPlace) = λ at. text_on at.size a.memory.image.now table a.slot at.row in
    rw (← slot_then a.slot (λ table. settle_row (text_at m table a.slot) a.k (table_walk a.intake.len m table)) (asked_table a.intake.len m a.number), ← c.in_ok-table.ensures)
    (follow_then (λ (at : SizedRow). at) text_place_of answer _ c.in_ok-find_row.field-0 c.and_then.result c.and_then.ensures (λ x y q. search rules)
    ∙ ap (λ (x : Answer (Found SizedRow)). then_found x answer) c.in_ok-find_row.ensures
    ∙ by_row (page_size m) a.k answer (table_walk a.intake.len m table))
