-- Rules 13.2 and 13.5: what a function of the C interface gives back: the code that it returns, and the values at the front of the result.
use Rattle.std.specs.Prelude.{◌≡◌, List, [], ◌∷◌, ℕ}
use Rattle.lists.specs.Write.{written}
use Rattle.refusal.specs.Answer.{Answer, given, refused}

pub record Reply : Type 0 where
  pub code : ℕ
  pub values : List ℕ

abbrev pub reply : (code : ℕ) (values : List ℕ) → Reply
reply code values = record { code = code; values = values }

-- the reply to an answer; a refusal gives its number and what it carries
abbrev pub reply_to : {A : Type 0} (given_reply : A → Reply) (answer : Answer A) → Reply
reply_to given_reply (given x) = given_reply x
reply_to given_reply (refused fault) = reply fault.number (fault.value ∷ fault.entry ∷ [])

-- a call returned the code of this reply, and left its values at the front of the result
abbrev pub Replied : (answer : Reply) (code : ℕ) (before after : List ℕ) → Type 0
Replied answer code before after = (code ≡ answer.code) × (after ≡ written before answer.values)
