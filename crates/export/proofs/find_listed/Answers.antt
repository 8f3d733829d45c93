-- `export::find_listed` meets its contract: block 0 tells the layout, and then the element answers (proofs/LayoutStart, ListedStart).
use mathlib.Core.Path.{ap, ◌∙◌}
use borrow.Author.Rules.{rules}
use Rattle.std.proofs.lemmas.Result.{err_from_is_err_and}
use Rattle.refusal.specs.Answer.{Answer}
use Rattle.intake.specs.Memory.{memory_of}
use Rattle.chain.specs.Found.{Found, then_found}
use Rattle.chain.proofs.ReplyThen.{follow_then}
use Rattle.export.specs.declared.FileLayout.{FileLayout}
use Rattle.export.specs.declared.SizedRow.{SizedRow}
use Rattle.export.specs.Layout.{layout_in}
use Rattle.export.proofs.LayoutStart.{once_told}
use Rattle.export.proofs.ListedStart.{element_row, listed_start}
use Rattle.export.proofs.find_listed.Goals as goal

pub returns-in_err-layout : goal.returns-in_err-layout
returns-in_err-layout c =
    let a = c.args in
    let m = memory_of a.memory in
    let told = once_told m (layout_in a.len) _ c.once_held.result c.once_held.ensures (λ x q. search rules) in
    let passed = err_from_is_err_and c.from_residual.result c.from_residual.ensures.1 in
    rw (passed.1, passed.2)
    (ap (λ (x : Answer (Found FileLayout)). then_found x (element_row m a.list.now a.i a.table)) (rw c.in_err-layout.was at told)
    ∙ listed_start a.len m a.list.now a.i a.table)

pub returns : goal.returns
returns c =
    let a = c.args in
    let m = memory_of a.memory in
    let told = once_told m (layout_in a.len) _ c.once_held.result c.once_held.ensures (λ x q. search rules) in
    follow_then (λ (file : FileLayout). file) (λ (at : SizedRow). at) (element_row m a.list.now a.i a.table) _ c.in_ok-layout.layout c.and_then.result c.and_then.ensures (λ x y q. search rules)
    ∙ ap (λ (x : Answer (Found FileLayout)). then_found x (element_row m a.list.now a.i a.table)) (rw c.in_ok-layout.was at told)
    ∙ listed_start a.len m a.list.now a.i a.table
