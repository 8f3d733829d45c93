-- Rules 2.1 to 2.19, 2.29: an answer is what was asked for, or a refusal; the first rule that applies answers.
use Rattle.std.specs.Prelude.{Bool, cond, Result, Ok, Err}
use Rattle.std.proofs.Math.Option.{Option, none, some}
use Rattle.refusal.specs.Fault.{fault_of}
use Rattle.refusal.specs.declared.Fault.{Fault}
use Rattle.refusal.specs.declared.Refusal.{Refusal}

pub data Answer (A : Type 0) : Type 0 where
  given : A → Answer A
  refused : Fault → Answer A

-- one rule of a ladder: the fault where its test holds, else the rules behind it
abbrev pub refuse_if : {A : Type 0} (test : Bool) (fault : Fault) (rest : Answer A) → Answer A
refuse_if test fault rest = cond test (refused fault) rest

-- what follows an answer that is not refused
abbrev pub and_then : {A B : Type 0} (answer : Answer A) (rest : A → Answer B) → Answer B
and_then (given x) rest = rest x
and_then (refused fault) rest = refused fault

-- the fault of an answer, if it is refused
abbrev pub fault_in : {A : Type 0} → Answer A → Option Fault
fault_in (given x) = none
fault_in (refused fault) = some fault

-- the answer that a result of the code stands for; value gives what a good result stands for
abbrev pub answer_as : {A B : Type 0} (value : A → B) → Result A Refusal → Answer B
answer_as value (Ok x) = given (value x)
answer_as value (Err refusal) = refused (fault_of refusal)

-- the same where a good result stands for itself
abbrev pub answer_of : {A : Type 0} → Result A Refusal → Answer A
answer_of (Ok x) = given x
answer_of (Err refusal) = refused (fault_of refusal)
