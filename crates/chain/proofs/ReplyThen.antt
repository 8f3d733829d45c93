-- What follows an answer about a row (`then_found`), by what the code's reply becomes or is followed by.
use mathlib.Core.Path.{◌≡◌}
use Rattle.std.specs.Prelude.{Result}
use Rattle.refusal.specs.declared.Refusal.{Refusal}
use Rattle.refusal.specs.Answer.{Answer, given, answer_as}
use Rattle.chain.specs.declared.Reply.{Reply}
use Rattle.chain.specs.declared.Reply.TheVariants as reply
use Rattle.chain.specs.Found.{Found, found, then_found, reply_of, MapsFound, FollowsFound}

module _ {A B C D : Type 0} (value : A → C) (other : B → D) (rest : C → Answer (Found D)) where
  pub map_then : (maps : A → B → Type 0) (r : Reply A) (s : Reply B) → MapsFound maps r s
      → ((x : A) (y : B) → maps x y → given (found (other y)) ≡ rest (value x))
      → given (reply_of other s) ≡ then_found (given (reply_of value r)) rest
  map_then maps (reply.Found x) s m each = rw m.2 (each x m.0 m.1)
  map_then maps (reply.Waiting page rows pages) s m each = rw m

  pub follow_then : (follows : A → Result (Reply B) Refusal → Type 0) (r : Reply A) (s : Result (Reply B) Refusal) → FollowsFound follows r s
      → ((x : A) (y : Result (Reply B) Refusal) → follows x y → answer_as (reply_of other) y ≡ rest (value x))
      → answer_as (reply_of other) s ≡ then_found (given (reply_of value r)) rest
  follow_then follows (reply.Found x) s m each = each x s m
  follow_then follows (reply.Waiting page rows pages) s m each = rw m
