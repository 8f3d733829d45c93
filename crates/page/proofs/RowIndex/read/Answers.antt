-- `page::RowIndex::read` meets its contract: the fit is tested, and then the ones are compared (proofs/RowEntries).
use mathlib.Core.Path.{◌≡◌, refl, ◌∙◌}
use mathlib.Core.Bool.{Bool, true, false, cond}
use native.Mathlib.Omega.{arith}
use Rattle.std.specs.Prelude.{Some, None}
use Rattle.std.specs.Bool.{then_some}
use Rattle.page.proofs.EntriesInside.{index_bound}
use Rattle.page.proofs.RowEntries.{unfit_index, counted_index}
use Rattle.page.proofs.RowIndex.read.Goals as goal

pub overflow_add-end : goal.overflow_add-end
overflow_add-end c = omega (arith, index_bound c.entry_count-entries.result (omega arith))

pub returns-then-page-end : goal.returns-then-page-end
returns-then-page-end c = rw (← unfit_index _ c.entry_count-entries.ensures.0 c.index_size-size.ensures (omega arith))

some_if : {A : Type 0} (b : Bool) (x : A) → then_some b x ≡ cond b (Some x) None
some_if true x = refl
some_if false x = refl

pub returns : goal.returns
returns c =
    let counted = counted_index _ c.entry_count-entries.ensures.0 c.index_size-size.ensures c.if-page-end.false c.present_count-ones.ensures c.num_rows-counted.ensures in
    c.then_some.ensures ∙ rw (← counted, ← c.entry_count-entries.ensures.0) (some_if _ _)
