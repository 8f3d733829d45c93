-- `chain::walk_chain` meets its contract, by the loop's invariant `Going` (proofs/WalkLoop): each way out is one of its laws.
use Prim.Native.Nat.{◌-◌}
use Rattle.chain.specs.File.{file_pages}
use Rattle.chain.proofs.WalkLoop.{Going}
use Rattle.chain.proofs.walk_chain.Given as goal

abbrev pub invariant-loop-chain : goal.invariant-loop-chain
invariant-loop-chain l =
    Going (file_pages l.chain l.table l.memory.image.now l.memory.map.now) l.chain.first_page l.rows l.pages l.mark l.holder l.page

abbrev pub decreases-loop-chain : goal.decreases-loop-chain
decreases-loop-chain l =
    0x1_0000_0000 - l.pages
