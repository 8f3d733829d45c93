-- Definitions that only the contracts of private functions and the proofs cite.
use Rattle.std.specs.Prelude.{ℕ, Option}
use Rattle.lists.specs.Alias.{Bytes}
use Rattle.refusal.specs.Fault.{fault}
use Rattle.refusal.specs.Answer.{Answer, refused, and_then}
use Rattle.anlz.specs.declared.Section.{Section}
use Rattle.anlz.specs.First.{first_section}
use Rattle.waveform.specs.declared.Wave.{Wave}
use Rattle.waveform.specs.declared.Wave.TheVariants.{Detail}
use Rattle.waveform.specs.declared.WaveEntry.{WaveEntry}
use Rattle.waveform.specs.Sort.{wave_code}
use Rattle.waveform.specs.Wave.{entry_in}
use Rattle.waveform.specs.Questions.{or_absent}

-- the answer for a sort, where this is found as its first section
abbrev pub entry_of : (wave : Wave) (file : Bytes) (k : ℕ) (found : Option Section) → Answer WaveEntry
entry_of wave file k found = and_then (or_absent found) (λ (section : Section). entry_in wave file section k)

-- the answer for a sort that there is
abbrev pub ask_known : (wave : Wave) (file : Bytes) (k : ℕ) → Answer WaveEntry
ask_known wave file k = and_then (first_section file (wave_code wave)) (entry_of wave file k)

-- the answer for an absent sort: looking for a section, of any code, judges them all
abbrev pub ask_absent : (file : Bytes) → Answer WaveEntry
ask_absent file = and_then (first_section file (wave_code Detail)) (λ (found : Option Section). refused (fault 18 0))
