-- `intake::deliver_packet` meets its contract: refused as the check says, else each block is taken in and the blocks are counted (proofs/PacketFold).
use mathlib.Core.Path.{sym}
use Rattle.std.proofs.Common.{rules}
use Rattle.intake.proofs.PacketFold.{sizes_passed, refused_packet, taken_packet}
use Rattle.intake.proofs.deliver_packet.Goals as goal

pub returns-in_err-check_packet : goal.returns-in_err-check_packet
returns-in_err-check_packet c = search (rules, refused_packet)

pub take_blocks-requires : goal.take_blocks-requires
take_blocks-requires c =
    let p = sizes_passed _ _ _ _ _ (sym c.in_ok-check_packet.ensures) in
    (p.sound, p.sized, p.room)

pub returns : goal.returns
returns c =
    taken_packet _ _ _ _ _ (sym c.in_ok-check_packet.ensures) c.take_blocks.ensures.map_after c.take_blocks.ensures.results_after c.held_count.ensures
