-- Rule 14.32: two files that agree on the width and the number of a section's entries have the same entry k there (`entry_agree`).
-- Rests on tags that agree (anlz/SectionsAgree) and on numbers that agree (crate number).
use mathlib.Core.Path.{◌≡◌}
use Prim.Native.Nat.{ℕ}
use native.Mathlib.Omega.{arith}
use Rattle.lists.specs.Alias.{Bytes}
use Rattle.number.specs.Agree.{Agree}
use Rattle.number.proofs.NumberAgree.{within_less, agree_less, be32_agree}
use Rattle.anlz.specs.declared.Section.{Section}
use Rattle.anlz.specs.Bytes.{in_tag}
use Rattle.anlz.proofs.SectionsAgree.{tag_bytes_agree}
use Rattle.entries.proofs.EntriesAgree.{fills_agree}
use Rattle.waveform.specs.declared.Wave.{Wave}
use Rattle.waveform.specs.Wave.{len_entry_bytes, len_entries, wave_width, wave_holds, entry_in}
use Rattle.wave_depend.specs.Bytes.{width_and_number}

module _ {s t : Bytes} (a : Agree (width_and_number s) s t) where
  width_agree : len_entry_bytes s ≡ len_entry_bytes t
  width_agree = be32_agree 0x0c (agree_less (λ i e. within_less 0x0c 4 _ _ i (omega arith) (omega arith) e) a)

  number_agree : len_entries s ≡ len_entries t
  number_agree = be32_agree 0x10 (agree_less (λ i e. within_less 0x10 4 _ _ i (omega arith) (omega arith) e) a)

  holds_agree : (wave : Wave) → wave_holds wave s ≡ wave_holds wave t
  unfolding wave_holds
  holds_agree wave = rw (width_agree, number_agree, fills_agree (wave_width wave) (len_entries t) a)

pub entry_agree : (wave : Wave) (section : Section) (k : ℕ) {s t : Bytes} → Agree (in_tag width_and_number s section) s t
    → entry_in wave s section k ≡ entry_in wave t section k
unfolding entry_in
entry_agree wave section k a = let tags = tag_bytes_agree width_and_number section a in rw (holds_agree tags wave, number_agree tags)
