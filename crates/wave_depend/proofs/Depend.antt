-- The theorem of specs/Depend: files that agree on the envelopes have the same sections (anlz/SectionsAgree), and where there is one of the
-- sort asked, files that agree on its width and number have the same entry k there (EntryAgree).
use Rattle.lists.proofs.Choice.{or_left, or_right}
use Rattle.number.proofs.NumberAgree.{agree_less}
use Rattle.refusal.proofs.Then.{then_agree}
use Rattle.anlz.specs.Sections.{sections}
use Rattle.anlz.specs.Bytes.{envelope_byte}
use Rattle.anlz.proofs.SectionsAgree.{sections_agree}
use Rattle.waveform.specs.Sort.{sort_of}
use Rattle.waveform.specs.Questions.{or_absent, wave_section, ask_wave}
use Rattle.wave_depend.specs.Bytes.{relevant}
use Rattle.wave_depend.specs.Depend.{EveryWave}
use Rattle.wave_depend.proofs.EntryAgree.{entry_agree}

pub wave_depends : EveryWave
unfolding relevant ask_wave
wave_depends s number k t a =
    rw (← sections_agree (agree_less (λ i e. or_left _ e) a))
    (then_agree (sections s) (λ all listed.
    then_agree (or_absent (sort_of number)) (λ wave known.
    then_agree (wave_section wave all) (λ section found.
    entry_agree wave section k (agree_less (λ i e. or_right (envelope_byte s i) (rw (listed, known, found) e)) a)))))
