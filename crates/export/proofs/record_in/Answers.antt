-- `export::record_in` meets its contract: the table asked for chooses the case of `ask_record_in`, and the answer goes by the row (proofs/ListedStart).
use mathlib.Core.Path.{ap, ◌∙◌}
use borrow.Author.Rules.{rules}
use Rattle.std.proofs.lemmas.Result.{err_from_is_err_and}
use Rattle.refusal.specs.Answer.{Answer}
use Rattle.intake.specs.Memory.{memory_of}
use Rattle.chain.specs.Found.{Found, then_found}
use Rattle.table_walk.specs.Walk.{page_size}
use Rattle.export.specs.declared.SizedRow.{SizedRow}
use Rattle.export.specs.FromList.{table_listed, ask_record_in}
use Rattle.export.specs.Record.{record_on_of}
use Rattle.export.specs.Private.{record_in}
use Rattle.chain.proofs.ReplyThen.{map_then}
use Rattle.export.proofs.ListedStart.{listed-row}
use Rattle.export.proofs.record_in.Goals as goal

pub returns-in_err-table : goal.returns-in_err-table
unfolding ask_record_in
returns-in_err-table c =
    let passed = err_from_is_err_and c.from_residual.result c.from_residual.ensures.1 in
    rw (passed.1, passed.2, ← c.in_err-table.ensures)

pub returns-in_err-find_listed : goal.returns-in_err-find_listed
unfolding ask_record_in
returns-in_err-find_listed c =
    let a = c.args in
    let m = memory_of a.memory in
    let table = c.in_ok-table.table in
    let passed = err_from_is_err_and c.from_residual-in_err-find_listed.result c.from_residual-in_err-find_listed.ensures.1 in
    rw (passed.1, passed.2, ← c.in_ok-table.ensures)
    (ap (λ (x : Answer (Found SizedRow)). then_found x (record_in table a.memory.image.now)) c.in_err-find_listed.ensures
    ∙ listed-row (page_size m) (table_listed a.intake.len m a.list.now a.i table) (record_in table a.memory.image.now))

pub returns : goal.returns
unfolding ask_record_in
returns c =
    let a = c.args in
    let m = memory_of a.memory in
    let table = c.in_ok-table.table in
    rw (← c.in_ok-table.ensures)
    (map_then (λ (at : SizedRow). at) record_on_of (record_in table a.memory.image.now) _ c.in_ok-find_listed.field-0 c.map_found.result c.map_found.ensures (λ x y q. search rules)
    ∙ ap (λ (x : Answer (Found SizedRow)). then_found x (record_in table a.memory.image.now)) c.in_ok-find_listed.ensures
    ∙ listed-row (page_size m) (table_listed a.intake.len m a.list.now a.i table) (record_in table a.memory.image.now))
