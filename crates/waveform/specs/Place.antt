-- Rule 14.28 as one statement: an entry that is answered is entry k of the first section of the sort asked, whole inside it and the file.
use Rattle.std.specs.Prelude.{◌≡◌, ℕ, ◌+◌, ◌≤◌, length, Some}
use Rattle.lists.specs.Alias.{Bytes}
use Rattle.lists.specs.Subslice.{subslice}
use Rattle.refusal.specs.Answer.{given}
use Rattle.anlz.specs.declared.Section.{Section}
use Rattle.anlz.specs.Section.{tag_of}
use Rattle.anlz.specs.First.{first_section}
use Rattle.entries.specs.Entries.{entries_start, entry}
use Rattle.waveform.specs.declared.Wave.{Wave}
use Rattle.waveform.specs.declared.WaveEntry.{WaveEntry}
use Rattle.waveform.specs.Sort.{sort_of, wave_code}
use Rattle.waveform.specs.Wave.{wave_width}
use Rattle.waveform.specs.Questions.{ask_wave}

pub record EntryPlace (file : Bytes) (number k : ℕ) (e : WaveEntry) : Type 0 where
  -- the sort asked, and its first section
  pub wave : Wave
  pub section : Section
  pub sort : sort_of number ≡ Some wave
  pub first : first_section file (wave_code wave) ≡ given (Some section)
  -- the entry starts at byte `18` of the section or behind it, and ends inside the section and the file
  pub begins : section.place + entries_start ≤ e.place
  pub ends : e.place + e.width ≤ section.end
  pub inside : e.place + e.width ≤ length file
  -- it is as wide as an entry of the sort, and its bytes are those of entry k
  pub wide : e.width ≡ wave_width wave
  pub bytes : subslice file e.place (e.place + e.width) ≡ entry (wave_width wave) (tag_of file section) k

-- for every file, number and k
abbrev pub EveryWaveEntry : Type 0
EveryWaveEntry = (file : Bytes) (number k : ℕ) (e : WaveEntry) → ask_wave file number k ≡ given e → EntryPlace file number k e
