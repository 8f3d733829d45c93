-- `intake::take_blocks` meets its contract. The invariant: what is left of the packet leaves what all of it does (proofs/PacketFold).
use mathlib.Core.Path.{◌∙◌}
use mathlib.Core.Logic.{⊎_elim}
use native.Mathlib.Omega.{arith}
use Rattle.std.proofs.Common.{rules}
use Rattle.intake.proofs.PacketFold.{turn_first, turn_next, turn_last}
use Rattle.intake.proofs.take_blocks.Goals as goal

pub loop-i-init : goal.loop-i-init
loop-i-init c =
    let turn = turn_first _ _ _ _ _ c.requires.0 c.requires.1 c.requires.2 in
    search (rules, turn)

pub take_block-verdict-requires : goal.take_block-verdict-requires
take_block-verdict-requires c = c.loop-i.invariant.1.sound

pub loop-i-preserved : goal.loop-i-preserved
loop-i-preserved c =
    let inv = c.loop-i.invariant in
    let s = c.in-Some.ensures.steps in
    let piece = s.0.1 in
    (piece.0 ∙ inv.0, turn_next _ _ _ _ _ inv.1 _ s.0.0 piece.1.0 (piece.1.1 ∙ inv.0) s.1 s.2 c.take_block-verdict.ensures c.result.ensures)

pub returns : goal.returns
returns c =
    let inv = c.loop-i.invariant in
    let none = ⊎_elim (λ p. p.1.0) (λ p. omega (arith, p.1.1.0, inv.0, inv.1.sized)) c.in-None.ensures.steps.0 in
    let last = turn_last _ _ _ _ _ inv.1 none in
    record { map_after = last.0; results_after = last.1 }
