-- `anlz::first_section` meets its contract: by the loop's invariant `SectionsLeft` (proofs/SectionsLoop), with what is found so far (proofs/FirstLoop).
use mathlib.Core.Path.{◌≡◌, sym, ◌∙◌}
use Rattle.std.proofs.Common.{rules, Err}
use Rattle.anlz.specs.First.{first_section}
use Rattle.anlz.proofs.FileStart.{first_refused}
use Rattle.anlz.proofs.SectionsLoop.{left_begin, left_end, left_broken, left_found}
use Rattle.anlz.proofs.FirstLoop.{found_among, found_all, found_more}
use Rattle.anlz.proofs.first_section.Goals as goal

pub returns-in_err-next-items : goal.returns-in_err-next-items
returns-in_err-next-items c =
    let e : c.from_residual.result ≡ Err c.in_err-next-items.field-0.0 = search rules in
    rw e (first_refused _ _ c.in_err-next-items.ensures.start)

pub loop-next-init : goal.loop-next-init
unfolding first_section found_among
loop-next-init c =
    rw c.into_iter-next-iterator.ensures.into_iter_gives
    (left_begin c.in_ok-next-items.next-items _ _ c.in_ok-next-items.ensures.start c.in_ok-next-items.ensures.file)

pub returns-in_err-section : goal.returns-in_err-section
returns-in_err-section c =
    let e : c.from_residual-in_err-section.result ≡ Err c.in_err-section.field-0.0 = search rules in
    rw e (left_broken c.loop-next.invariant c.next.new.self _ (rw c.in_err-section.was at c.in-Some.ensures.steps))

pub loop-next-preserved : goal.loop-next-preserved
loop-next-preserved c =
    left_found c.loop-next.invariant c.next.new.self _ (rw c.in_ok-section.was at c.in-Some.ensures.steps) (found_more _ _ _ (search rules))

pub returns : goal.returns
returns c = sym (found_all _ _) ∙ left_end c.loop-next.invariant c.next.new.self c.in-None.ensures.steps
