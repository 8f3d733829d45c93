-- Rules 14.2 to 14.14, 14.23, 14.24, 14.26 to 14.28: the number of each refusal about an ANLZ file. Rule 14.15: all carry 0.
use Rattle.std.specs.Prelude.{◌≡◌, List, ◌++◌, ℕ, Result, Ok, Err, codes}
use Rattle.std.specs.Fmt.{decimal}
use Rattle.refusal.specs.declared.Fault.{Fault}
use Rattle.refusal.specs.Fault.{fault}
use Rattle.refusal.specs.Answer.{Answer, given, refused}
use Rattle.anlz.specs.declared.AnlzRefusal.{AnlzRefusal}
use Rattle.anlz.specs.declared.AnlzRefusal.TheVariants.{Absent, FileHeader, BadSection, NoGrid, GridLength, BarPosition, CueList, Waveform}

abbrev pub anlz_number : AnlzRefusal → ℕ
anlz_number Absent = 18
anlz_number FileHeader = 20
anlz_number BadSection = 21
anlz_number NoGrid = 22
anlz_number GridLength = 23
anlz_number BarPosition = 24
anlz_number CueList = 26
anlz_number Waveform = 27

abbrev pub anlz_fault : AnlzRefusal → Fault
anlz_fault refusal = fault (anlz_number refusal) 0

-- what the conversion of a refusal gives
abbrev pub AnlzNumberOf : AnlzRefusal → ℕ → Type 0
AnlzNumberOf refusal n = n ≡ anlz_number refusal

-- the text of a refusal: the word and its number
abbrev pub anlz_refusal_text : AnlzRefusal → List ℕ
anlz_refusal_text refusal = codes "refused " ++ decimal (anlz_number refusal)

-- the answer that a result of the code stands for; value gives what a good result stands for
abbrev pub anlz_answer_as : {A B : Type 0} (value : A → B) → Result A AnlzRefusal → Answer B
anlz_answer_as value (Ok x) = given (value x)
anlz_answer_as value (Err refusal) = refused (anlz_fault refusal)

-- the same where a good result stands for itself
abbrev pub anlz_answer_of : {A : Type 0} → Result A AnlzRefusal → Answer A
anlz_answer_of (Ok x) = given x
anlz_answer_of (Err refusal) = refused (anlz_fault refusal)
