-- `chain::fill_page` meets its contract: a page that starts above 32 bits has no place to write.
use mathlib.Core.Path.{refl}
use Prim.Native.Nat.{◌*◌}
use native.Mathlib.Omega.{arith}
use Rattle.chain.specs.File.{page_places}
use Rattle.page.proofs.RowEntries.{places_high}
use Rattle.chain.proofs.PagePart.{start_at}
use Rattle.chain.proofs.fill_page.Goals as goal

pub returns-then-place-gt4294967295 : goal.returns-then-place-gt4294967295
unfolding page_places
returns-then-place-gt4294967295 c =
    let a = c.args in
    let start = start_at a.size a.number c.new-page.ensures in
    rw (places_high _ (a.number * a.size) (omega (arith, start, c.if-place-gt4294967295.true))) (refl, refl)

pub returns : goal.returns
unfolding page_places
returns c =
    let a = c.args in
    rw (← c.part.ensures, ← start_at a.size a.number c.new-page.ensures) c.fill.ensures
