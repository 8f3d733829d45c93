-- `waveform::Wave::entry_in` meets its contract: the place of the entry is in the file (proofs/EntryIn).
use mathlib.Core.Path.{sym, ◌∙◌}
use native.Mathlib.Omega.{arith}
use Rattle.waveform.proofs.EntryIn.{entry_room}
use Rattle.waveform.proofs.Wave.entry_in.Goals as goal

pub overflow_add-place : goal.overflow_add-place
overflow_add-place c =
    let a = c.args in
    let room = entry_room a.self a.file.now a.section a.k c.bytes-tag.ensures (sym c.holds.ensures ∙ c.if-not-holds.false)
    c.u32_be_at.ensures (omega arith) in
    omega (arith, rw (← c.width.ensures, ← c.start_of.ensures) at room)
