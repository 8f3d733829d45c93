-- `export::layout_in` meets its contract: a header that holds has a page length above 0 (directory, `good_header`).
use mathlib.Core.Path.{sym, ◌∙◌}
use native.Mathlib.Omega.{arith}
use Rattle.directory.proofs.GoodHeader.{good_header}
use Rattle.export.proofs.layout_in.Goals as goal

pub nonzero_div-result : goal.nonzero_div-result
nonzero_div-result c =
    let a = c.args in
    let holds = sym c.header_holds.ensures ∙ c.if-not-header_holds.false in
    omega (arith, (good_header a.len a.block.now holds).least, c.u32_at-size.ensures)
