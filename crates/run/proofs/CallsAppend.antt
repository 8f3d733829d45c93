-- A run that goes on (specs/Run).
--     received_append, calls_append    the calls before, then the later ones
--     calls_keep                       a block that was received stays
use mathlib.Core.Path.{◌≡◌, refl, ap, ◌∙◌}
use mathlib.Core.List.{List, [], ◌∷◌, ◌++◌}
use mathlib.Core.Option.{some}
use Prim.Native.Nat.{ℕ}
use lib.Dec.{eqb}
use borrow.Author.Tests.{eqb-true, eqb-false}
use Rattle.lists.proofs.Choice.{on}
use Rattle.intake.specs.Memory.{Memory}
use Rattle.intake.specs.Deliver.{Delivery}
use Rattle.run.specs.Received.{Received, receive, receive_each, has}
use Rattle.run.specs.Call.{Call, deliveries_of}
use Rattle.run.specs.Run.{after_call, receive_call, after_calls, receive_calls}
use Rattle.run.proofs.ReceivedBlocks.{receive_again, receive_other}

module _ (len : ℕ) where
  pub received_append : (calls later : List Call) (r : Received) → receive_calls len (calls ++ later) r ≡ receive_calls len later (receive_calls len calls r)
  unfolding receive_calls
  received_append [] later r = refl
  received_append (call ∷ calls) later r = received_append calls later (receive_call len call r)

  pub calls_append : (calls later : List Call) (m : Memory) → after_calls len (calls ++ later) m ≡ after_calls len later (after_calls len calls m)
  unfolding after_calls
  calls_append [] later m = refl
  calls_append (call ∷ calls) later m = calls_append calls later (after_call len call m)

  -- one call more
  pub received_last : (calls : List Call) (call : Call) (r : Received)
      → receive_calls len (calls ++ (call ∷ [])) r ≡ receive_call len call (receive_calls len calls r)
  unfolding receive_calls
  received_last calls call r = received_append calls (call ∷ []) r

  pub calls_last : (calls : List Call) (call : Call) (m : Memory) → after_calls len (calls ++ (call ∷ [])) m ≡ after_call len call (after_calls len calls m)
  unfolding after_calls
  calls_last calls call m = calls_append calls (call ∷ []) m

  -- a block that was received stays
  receive_keeps : (d : Delivery) (r : Received) (b : ℕ) (piece : List ℕ) → r b ≡ some piece → receive len d r b ≡ some piece
  receive_keeps d r b piece e =
      on (eqb b d.block)
      (λ q. receive_again len d r (ap has (rw (eqb-true b d.block q) at e)) b ∙ e)
      (λ q. receive_other len d r b (eqb-false b d.block q) ∙ e)

  each_keeps : (deliveries : List Delivery) (r : Received) (b : ℕ) (piece : List ℕ) → r b ≡ some piece → receive_each len deliveries r b ≡ some piece
  unfolding receive_each
  each_keeps [] r b piece e = e
  each_keeps (d ∷ rest) r b piece e = each_keeps rest (receive len d r) b piece (receive_keeps d r b piece e)

  pub calls_keep : (calls : List Call) (r : Received) (b : ℕ) (piece : List ℕ) → r b ≡ some piece → receive_calls len calls r b ≡ some piece
  unfolding receive_calls
  calls_keep [] r b piece e = e
  calls_keep (call ∷ calls) r b piece e = calls_keep calls (receive_call len call r) b piece (each_keeps (deliveries_of call) r b piece e)
