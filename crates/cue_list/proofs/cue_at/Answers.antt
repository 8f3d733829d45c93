-- `cue_list::cue_at` meets its contract: by the loop's invariant `SectionsLeft` (anlz/SectionsLoop), with the answer for the search so far (proofs/CueSearch).
use mathlib.Core.Path.{◌≡◌, sym, ◌∙◌}
use Rattle.std.proofs.Common.{rules, Err}
use Rattle.anlz.proofs.SectionsLoop.{left_begin, left_end, left_broken, left_found}
use Rattle.cue_list.proofs.CueSearch.{among_start, cue_refused, among_end, among_more}
use Rattle.cue_list.proofs.cue_at.Goals as goal

pub returns-in_err-next-items : goal.returns-in_err-next-items
returns-in_err-next-items c =
    let e : c.from_residual.result ≡ Err c.in_err-next-items.field-0.0 = search rules in
    rw e (cue_refused _ _ c.in_err-next-items.ensures.start)

pub loop-next-init : goal.loop-next-init
loop-next-init c =
    rw (c.into_iter-next-iterator.ensures.into_iter_gives, among_start)
    (left_begin c.in_ok-next-items.next-items _ _ c.in_ok-next-items.ensures.start c.in_ok-next-items.ensures.file)

pub returns-in_err-section : goal.returns-in_err-section
returns-in_err-section c =
    let e : c.from_residual-in_err-section.result ≡ Err c.in_err-section.field-0.0 = search rules in
    rw e (left_broken c.loop-next.invariant c.next.new.self _ (rw c.in_err-section.was at c.in-Some.ensures.steps))

pub loop-next-preserved : goal.loop-next-preserved
loop-next-preserved c =
    left_found c.loop-next.invariant c.next.new.self _ (rw c.in_ok-section.was at c.in-Some.ensures.steps) (among_more _ _ _ c.search_section-search.ensures)

pub returns : goal.returns
returns c = c.end.ensures ∙ sym (among_end _ _) ∙ left_end c.loop-next.invariant c.next.new.self c.in-None.ensures.steps
