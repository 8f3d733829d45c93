-- Rules 14.26 and 14.29: a question about a waveform is one about the first section of its sort; an absent sort is refused behind the sections.
use mathlib.Core.Path.{◌≡◌}
use mathlib.Core.List.{List}
use Rattle.std.specs.Prelude.{Option, None, Some}
use Prim.Native.Nat.{ℕ}
use Rattle.lists.specs.Alias.{Bytes}
use Rattle.lists.proofs.Choice.{never}
use Rattle.refusal.specs.declared.Fault.{Fault}
use Rattle.refusal.specs.Fault.{fault}
use Rattle.refusal.specs.Answer.{Answer, given, refused, and_then}
use Rattle.refusal.proofs.Then.{then_then}
use Rattle.anlz.specs.declared.Section.{Section}
use Rattle.anlz.specs.Sections.{sections}
use Rattle.anlz.specs.First.{first_with, first_section}
use Rattle.waveform.specs.declared.Wave.{Wave}
use Rattle.waveform.specs.Sort.{sort_of}
use Rattle.waveform.specs.Questions.{or_absent, ask_wave}
use Rattle.waveform.specs.Private.{entry_of, ask_known, ask_absent}

-- what is made of the first section with a code
of_first : {A : Type 0} (file : Bytes) (code : ℕ) (rest : Option Section → Answer A)
    → and_then (first_section file code) rest ≡ and_then (sections file) (λ (all : List Section). rest (first_with code all))
unfolding first_section
of_first file code rest = then_then (sections file) (λ (all : List Section). given (first_with code all)) rest

-- what is refused for its absence is refused with 18
absent_fault : {A : Type 0} (found : Option A) {f : Fault} → refused f ≡ or_absent found → f ≡ fault 18 0
absent_fault None e = cc
absent_fault (Some x) e = never (cc e)

module _ (file : Bytes) (number k : ℕ) where
  pub ask-known : {wave : Wave} → given wave ≡ or_absent (sort_of number) → ask_known wave file k ≡ ask_wave file number k
  unfolding ask_wave
  ask-known {wave} e = rw (← e) (of_first file _ (entry_of wave file k))

  pub ask-absent : {f : Fault} → refused f ≡ or_absent (sort_of number) → ask_absent file ≡ ask_wave file number k
  unfolding ask_wave
  ask-absent {f} e = rw (← e, absent_fault (sort_of number) e) (of_first file _ (λ (found : Option Section). refused (fault 18 0)))
