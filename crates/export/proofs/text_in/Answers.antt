-- `export::text_in` meets its contract: the table asked for chooses the case of `ask_text_in`, and the answer goes by the row (proofs/ListedStart).
use mathlib.Core.Path.{ap, ◌∙◌}
use borrow.Author.Rules.{rules}
use Rattle.std.proofs.lemmas.Result.{err_from_is_err_and}
use Rattle.refusal.specs.Answer.{Answer}
use Rattle.intake.specs.Memory.{memory_of}
use Rattle.chain.specs.Found.{Found, then_found}
use Rattle.table_walk.specs.Asked.{asked_table}
use Rattle.table_walk.specs.Walk.{page_size}
use Rattle.export.specs.declared.SizedRow.{SizedRow}
use Rattle.export.specs.FromList.{table_listed, ask_text_in}
use Rattle.export.specs.Text.{TextPlace, text_on, text_at, text_place_of}
use Rattle.table_walk.proofs.AskedTable.{slot_then}
use Rattle.chain.proofs.ReplyThen.{follow_then}
use Rattle.export.proofs.ListedStart.{listed-row}
use Rattle.export.proofs.text_in.Goals as goal

pub returns-in_err-table : goal.returns-in_err-table
unfolding ask_text_in
returns-in_err-table c =
    let a = c.args in
    let m = memory_of a.memory in
    let passed = err_from_is_err_and c.from_residual.result c.from_residual.ensures.1 in
    rw (passed.1, passed.2, ← slot_then a.slot (λ table. then_found (table_listed a.intake.len m a.list.now a.i table) (text_at m table a.slot)) (asked_table a.intake.len m a.number), ← c.in_err-table.ensures)

pub returns-in_err-find_listed : goal.returns-in_err-find_listed
unfolding ask_text_in
returns-in_err-find_listed c =
    let a = c.args in
    let m = memory_of a.memory in
    let table = c.in_ok-table.table in
    let answer : SizedRow → Answer (Found TextPlace) = λ at. text_on at.size a.memory.image.now table a.slot at.row in
    let passed = err_from_is_err_and c.from_residual-in_err-find_listed.result c.from_residual-in_err-find_listed.ensures.1 in
    rw (passed.1, passed.2, ← slot_then a.slot (λ table. then_found (table_listed a.intake.len m a.list.now a.i table) (text_at m table a.slot)) (asked_table a.intake.len m a.number), ← c.in_ok-table.ensures)
    (ap (λ (x : Answer (Found SizedRow)). then_found x answer) c.in_err-find_listed.ensures
    ∙ listed-row (page_size m) (table_listed a.intake.len m a.list.now a.i table) answer)

pub returns : goal.returns
unfolding ask_text_in
returns c =
    let a = c.args in
    let m = memory_of a.memory in
    let table = c.in_ok-table.table in
    let answer : SizedRow → Answer (Found TextPlace) = λ at. text_on at.size a.memory.image.now table a.slot at.row in
    rw (← slot_then a.slot (λ table. then_found (table_listed a.intake.len m a.list.now a.i table) (text_at m table a.slot)) (asked_table a.intake.len m a.number), ← c.in_ok-table.ensures)
    (follow_then (λ (at : SizedRow). at) text_place_of answer _ c.in_ok-find_listed.field-0 c.and_then.result c.and_then.ensures (λ x y q. search rules)
    ∙ ap (λ (x : Answer (Found SizedRow)). then_found x answer) c.in_ok-find_listed.ensures
    ∙ listed-row (page_size m) (table_listed a.intake.len m a.list.now a.i table) answer)
