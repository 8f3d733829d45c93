-- `intake::take_blocks` meets its contract. The invariant: what is left of the packet leaves what all of it does (proofs/PacketFold).
use Rattle.std.proofs.Common.{◌≡◌}
use Rattle.std.specs.Iterator.Adapters.{enumerate_source, enumerate_count, zip_first, zip_second}
use Rattle.std.specs.Slice.Iter.{iter_rest, chunks_exact_rest, chunks_exact_size}
use Rattle.format.specs.Size.{block_size}
use Rattle.intake.specs.Memory.{memory}
use Rattle.intake.proofs.PacketFold.{Turn}
use Rattle.intake.proofs.take_blocks.Given as goal

abbrev pub invariant-loop-i : goal.invariant-loop-i
invariant-loop-i l =
    let left = enumerate_source l.i-iterator in
    (chunks_exact_size (zip_second left) ≡ block_size)
    × Turn l.intake.len (memory l.initial.image l.initial.map) l.blocks l.pieces l.initial.results (memory l.image l.map) l.results
    (enumerate_count l.i-iterator) (iter_rest (zip_first left)) (chunks_exact_rest (zip_second left))
