-- `directory::directory_of` meets its contract: a header that holds has a page length above 0 and at most 30 pointers (proofs/GoodHeader).
use native.Mathlib.Omega.{arith}
use Rattle.directory.proofs.GoodHeader.{good_header}
use Rattle.directory.proofs.directory_of.Goals as goal

pub nonzero_div-result : goal.nonzero_div-result
nonzero_div-result c =
    let h = good_header c.args.len c.args.block.now c.requires in
    omega (arith, c.u32_at-size.ensures)

pub keep-requires : goal.keep-requires
keep-requires c =
    let h = good_header c.args.len c.args.block.now c.requires in
    omega (arith, c.u32_at-n.ensures)
