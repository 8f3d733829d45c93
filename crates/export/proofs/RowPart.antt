-- Rule 5.8: a row's own part is no longer than its page, so the place of a text in it fits 64 bits.
--     part_room                 the part, and with it the row's start
--     text_room                 the sum of `text_at`
use Prim.Native.Nat.{ℕ, ◌+◌, ◌*◌, ◌^◌, ◌<◌, ◌≤◌}
use native.Mathlib.Nat.{mul-le-mul}
use native.Mathlib.Omega.{arith}
use lib.ListN.{length, length-drop}
use Rattle.lists.specs.Alias.{Bytes}
use Rattle.page.specs.declared.Row.{Row}
use Rattle.page.specs.Read.{before_index}
use Rattle.chain.specs.File.{page_part}
use Rattle.export.specs.Row.{row_part}
use Rattle.page.proofs.RowEntries.{before_short}
use Rattle.chain.proofs.PagePart.{part_short}

pub part_room : (size : ℕ) (image : Bytes) (row : Row) → length (row_part size image row) ≤ size
unfolding row_part
part_room size image row =
    let page = page_part size image row.page in
    omega (arith, length-drop row.start (before_index page), before_short page, part_short image size row.page)

pub text_room : (number size start at : ℕ) → number < 2 ^ 32 → size < 2 ^ 32 → start < 2 ^ 32 → at ≤ size → number * size + start + at < 2 ^ 64
text_room number size start at n s k a =
    let least : number ≤ 0xffff_ffff = omega arith in
    let most : size ≤ 0xffff_ffff = omega arith in
    omega (arith, mul-le-mul least most)
