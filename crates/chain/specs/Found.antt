-- Rules 3.15, 3.16, 5.24, 5.29: what a question answers where it is not refused: what was asked for, or Waiting.
use Rattle.std.specs.Prelude.{◌≡◌, Result, Ok, ℕ}
use Rattle.refusal.specs.Answer.{Answer, given, refused}
use Rattle.chain.specs.declared.Reply.{Reply}
use Rattle.chain.specs.declared.Reply.TheVariants as reply

pub data Found (A : Type 0) : Type 0 where
  found : A → Found A
  waiting : (page rows pages : ℕ) → Found A

-- what follows where something was found
abbrev pub then_found : {A B : Type 0} (answer : Answer (Found A)) (rest : A → Answer (Found B)) → Answer (Found B)
then_found (given (found x)) rest = rest x
then_found (given (waiting page rows pages)) rest = given (waiting page rows pages)
then_found (refused f) rest = refused f

-- what a reply of the code stands for; value gives what was found
abbrev pub reply_of : {A B : Type 0} (value : A → B) → Reply A → Found B
reply_of value (reply.Found x) = found (value x)
reply_of value (reply.Waiting page rows pages) = waiting page rows pages

-- what `map_found` of crate export gives, where maps relates what was found to what it becomes
abbrev pub MapsFound : {A B : Type 0} (maps : A → B → Type 0) → Reply A → Reply B → Type 0
MapsFound {B = B} maps (reply.Found x) r = (y : B) × maps x y × (r ≡ reply.Found y)
MapsFound maps (reply.Waiting page rows pages) r = r ≡ reply.Waiting page rows pages

-- what `and_then` of crate export gives, where follows relates what was found to what follows
abbrev pub FollowsFound : {A B E : Type 0} (follows : A → Result (Reply B) E → Type 0) → Reply A → Result (Reply B) E → Type 0
FollowsFound follows (reply.Found x) r = follows x r
FollowsFound follows (reply.Waiting page rows pages) r = r ≡ Ok (reply.Waiting page rows pages)
