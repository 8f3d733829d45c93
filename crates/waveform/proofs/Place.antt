-- Rule 14.28: where an entry stands that is answered (`entry_placed`). Rests on how entries lie that fill a section (entries/Filled), and on
-- parts of a slice.
use mathlib.Core.Path.{◌≡◌, refl}
use mathlib.Core.Bool.{true}
use Rattle.std.specs.Prelude.{Option, None, Some}
use Prim.Native.Nat.{ℕ, ◌<◌}
use native.Mathlib.Omega.{arith}
use lib.Dec.{leb}
use borrow.Author.Tests.{leb-false}
use Rattle.lists.specs.Alias.{Bytes}
use Rattle.lists.proofs.Choice.{on, never}
use Rattle.lists.proofs.Part.{part_ends, part_inside}
use Rattle.refusal.specs.Answer.{given}
use Rattle.refusal.proofs.Then.{then_given}
use Rattle.anlz.specs.declared.Section.{Section}
use Rattle.anlz.specs.Section.{tag_of}
use Rattle.anlz.specs.Sections.{sections}
use Rattle.anlz.specs.First.{first_with, first_section}
use Rattle.entries.specs.Entries.{entry_at}
use Rattle.waveform.specs.declared.Wave.{Wave}
use Rattle.waveform.specs.declared.WaveEntry.{WaveEntry}
use Rattle.waveform.specs.Sort.{sort_of, wave_code}
use Rattle.waveform.specs.Wave.{len_entries, wave_width, wave_holds, wave_entry, entry_in}
use Rattle.waveform.specs.Questions.{or_absent, wave_section, ask_wave}
use Rattle.waveform.specs.Place.{EntryPlace, EveryWaveEntry}
use Rattle.waveform.proofs.EntryIn.{wave_filled}

-- what is known of an entry that is answered
record Given (wave : Wave) (file : Bytes) (section : Section) (k : ℕ) (e : WaveEntry) : Type 0 where
  pub holds : wave_holds wave (tag_of file section) ≡ true
  pub below : k < len_entries (tag_of file section)
  pub same : e ≡ wave_entry wave section k

entry_in_given : (wave : Wave) (file : Bytes) (section : Section) (k : ℕ) (e : WaveEntry) → entry_in wave file section k ≡ given e
    → Given wave file section k e
unfolding entry_in
entry_in_given wave file section k e q =
    let tag = tag_of file section in
    on (wave_holds wave tag)
    (λ h.
    on (leb (len_entries tag) k)
    (λ p. never (cc (rw (h, p) at q)))
    (λ p. record { holds = h; below = leb-false (len_entries tag) k p; same = cc (rw (h, p) at q) }))
    (λ h. never (cc (rw h at q)))

section_placed : (file : Bytes) (number k : ℕ) (e : WaveEntry) {wave : Wave} {section : Section} → sort_of number ≡ Some wave
    → first_section file (wave_code wave) ≡ given (Some section) → Given wave file section k e → EntryPlace file number k e
section_placed file number k e {wave} {section} sort first g =
    let tag = tag_of file section in
    let inside = (wave_filled wave tag g.holds).inside k g.below in
    let bounds = part_ends file section.place section.end (omega arith) in
    rw g.same
    (record {
      wave = wave;
      section = section;
      sort = sort;
      first = first;
      begins = omega arith;
      ends = omega arith;
      inside = omega arith;
      wide = refl;
      bytes = part_inside file section.place section.end (entry_at (wave_width wave) k) (wave_width wave) inside;
    })

not_absent : {A : Type 0} (found : Option A) {x : A} → or_absent found ≡ given x → found ≡ Some x
not_absent (Some x) q = cc
not_absent None q = never (cc q)

pub entry_placed : EveryWaveEntry
unfolding ask_wave first_section
entry_placed file number k e q =
    then_given (sections file) q (λ all listed q1.
    then_given (or_absent (sort_of number)) q1 (λ wave known q2.
    then_given (wave_section wave all) q2 (λ section found q3.
    let first = not_absent (first_with (wave_code wave) all) found in
    section_placed file number k e (not_absent (sort_of number) known) (rw (listed, first)) (entry_in_given wave file section k e q3))))
