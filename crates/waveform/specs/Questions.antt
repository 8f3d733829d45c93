-- Rules 14.26 to 14.29: the question for entry k of a waveform. 20 and 21 come first, then 18 for an absent sort or section, 27, and 18 for k.
use Rattle.std.specs.Prelude.{◌≡◌, List, ℕ, Option, None, Some, Result}
use Rattle.lists.specs.Alias.{Bytes}
use Rattle.refusal.specs.Fault.{fault}
use Rattle.refusal.specs.Answer.{Answer, given, refused, and_then}
use Rattle.anlz.specs.declared.AnlzRefusal.{AnlzRefusal}
use Rattle.anlz.specs.declared.Section.{Section}
use Rattle.anlz.specs.Fault.{anlz_answer_of}
use Rattle.anlz.specs.Sections.{sections}
use Rattle.anlz.specs.First.{first_with}
use Rattle.waveform.specs.declared.Wave.{Wave}
use Rattle.waveform.specs.declared.WaveEntry.{WaveEntry}
use Rattle.waveform.specs.Sort.{sort_of, wave_code}
use Rattle.waveform.specs.Wave.{entry_in}

-- 18 where there is none
abbrev pub or_absent : {A : Type 0} → Option A → Answer A
or_absent None = refused (fault 18 0)
or_absent (Some x) = given x

-- the first section of a sort among these
abbrev pub wave_section : (wave : Wave) (all : List Section) → Answer Section
wave_section wave all = or_absent (first_with (wave_code wave) all)

unfoldable pub ask_wave : (file : Bytes) (number k : ℕ) → Answer WaveEntry
ask_wave file number k =
    and_then (sections file) (λ (all : List Section).
    and_then (or_absent (sort_of number)) (λ (wave : Wave).
    and_then (wave_section wave all) (λ (section : Section).
    entry_in wave file section k)))

-- what the conversion of a sort's number gives
abbrev pub WaveOf : ℕ → Result Wave AnlzRefusal → Type 0
WaveOf number result = anlz_answer_of result ≡ or_absent (sort_of number)
