-- Rules 14.27 and 14.28: entry k of a section, by the tests of the code, and room for its place in the file (`entry_room`).
use mathlib.Core.Path.{◌≡◌, ap}
use mathlib.Core.Bool.{true}
use Prim.Native.Nat.{ℕ, ◌+◌, ◌*◌, ◌≤◌}
use native.Mathlib.Nat.{mul-le-mul_left}
use native.Mathlib.Omega.{arith}
use lib.ListN.{length}
use lib.Dec.{eqb}
use Rattle.lists.specs.Alias.{Bytes}
use Rattle.lists.proofs.Choice.{both_true}
use Rattle.lists.proofs.Part.{part_ends}
use Rattle.anlz.specs.declared.Section.{Section}
use Rattle.anlz.specs.Section.{tag_of}
use Rattle.entries.specs.Entries.{entry_at}
use Rattle.entries.specs.Filled.{Filled}
use Rattle.entries.proofs.Filled.{entries_filled}
use Rattle.waveform.specs.declared.Wave.{Wave}
use Rattle.waveform.specs.Wave.{len_entry_bytes, len_entries, wave_width, count_holds, wave_holds}

pub wave_filled : (wave : Wave) (tag : Bytes) → wave_holds wave tag ≡ true → Filled (wave_width wave) (len_entries tag) tag
unfolding wave_holds
wave_filled wave tag e =
    let width = both_true (eqb (len_entry_bytes tag) (wave_width wave)) _ e in
    let count = both_true (count_holds wave (len_entries tag)) _ width.1 in
    entries_filled (wave_width wave) (len_entries tag) tag count.1

module _ (wave : Wave) (file : Bytes) (section : Section) (k : ℕ) {tag : Bytes} (t : tag ≡ tag_of file section) where
  pub entry_room : wave_holds wave tag ≡ true → {n : ℕ} → n ≡ len_entries tag → k ≤ n → section.place + entry_at (wave_width wave) k ≤ length file
  entry_room holds number h =
      let last = (wave_filled wave tag holds).last in
      let more : wave_width wave * k ≤ wave_width wave * len_entries tag = mul-le-mul_left (wave_width wave) (omega arith) in
      let same = ap length t in
      omega (arith, (part_ends file section.place section.end (omega arith)).1)
