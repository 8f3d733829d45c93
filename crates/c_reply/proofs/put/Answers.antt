-- `c_reply::put` meets its contract. The invariant: the values before i are written, those from i on are to be.
use mathlib.Core.Path.{refl, sym, ◌∙◌}
use native.Mathlib.Numerals.{add-one}
use lib.ListN.{drop, length-set, drop_of_length-le}
use lib.Seq.{drop-cons}
use Rattle.lists.proofs.Sets.{sets_past}
use Rattle.c_reply.proofs.put.Goals as goal

pub returns-then-res-i : goal.returns-then-res-i
returns-then-res-i c =
    let values = c.args.values.now in
    (refl, sym (c.loop-i.invariant.1 ∙ sets_past _ _ (drop c.loop-i.i values) c.if-res-i.true))

pub loop-i-preserved : goal.loop-i-preserved
loop-i-preserved c =
    let values = c.args.values.now in
    (simp length-set c.loop-i.invariant.0, c.loop-i.invariant.1 ∙ rw (drop-cons values c.loop-i.i 0 c.loop-i-test.true, add-one))

pub returns : goal.returns
returns c = (refl, sym (c.loop-i.invariant.1 ∙ rw (drop_of_length-le _ c.loop-i-test.false)))
