-- The received blocks after a delivery (specs/Received). Rule 8.4.
--     receive_nothing, receive_again    a delivery that brings nothing, or a block already received, leaves them
--     receive_new      a block that was not received goes in
--     receive_other    every other block is as before
--     count_new        one block more
use mathlib.Core.Path.{◌≡◌, refl, sym}
use mathlib.Core.Bool.{Bool, true, false, cond, ◌&&◌}
use mathlib.Core.List.{List}
use mathlib.Core.Option.{Option, none, some}
use Prim.Native.Nat.{ℕ, zero, suc, ◌+◌, ◌<◌, ◌≤◌}
use native.Mathlib.Omega.{arith}
use lib.ListN.{length}
use lib.Dec.{eqb}
use borrow.Author.Tests.{lt-ltb, le-ltb, eq-eqb, ne_eqb, eqb-true, eqb-false}
use Rattle.format.specs.Size.{block_size}
use Rattle.bitmap.specs.Words.{block_count}
use Rattle.intake.specs.Deliver.{Delivery}
use Rattle.run.specs.Received.{Received, nothing, brings, first_piece, receive, has, received_below}
use Rattle.lists.proofs.Choice.{never, on}

pub receive_other : (len : ℕ) (d : Delivery) (r : Received) (b : ℕ) → (b ≡ d.block → ⊥) → receive len d r b ≡ r b
unfolding receive
receive_other len d r b h = rw (ne_eqb b d.block h) (by (brings len d))
  where
    by : (t : Bool) → cond (t && false) (first_piece (r b) d.piece) (r b) ≡ r b
    by true = refl
    by false = refl

pub receive_nothing : (len : ℕ) (d : Delivery) (r : Received) → brings len d ≡ false → (b : ℕ) → receive len d r b ≡ r b
unfolding receive
receive_nothing len d r e b = rw e

pub number_brings_nothing : (len : ℕ) (d : Delivery) → block_count len ≤ d.block → brings len d ≡ false
unfolding brings
number_brings_nothing len d h = rw (le-ltb d.block (block_count len) h)

pub size_brings_nothing : (len : ℕ) (d : Delivery) → d.block < block_count len → (length d.piece ≡ block_size → ⊥) → brings len d ≡ false
unfolding brings
size_brings_nothing len d l h = rw (lt-ltb d.block (block_count len) l, ne_eqb (length d.piece) block_size h)

first_stays : (o : Option (List ℕ)) (piece : List ℕ) → has o ≡ true → first_piece o piece ≡ o
first_stays (some first) piece e = refl
first_stays none piece e = never (cc)

pub receive_again : (len : ℕ) (d : Delivery) (r : Received) → has (r d.block) ≡ true → (b : ℕ) → receive len d r b ≡ r b
unfolding receive
receive_again len d r e b = on (eqb b d.block) (λ h. here (eqb-true b d.block h)) (λ h. receive_other len d r b (eqb-false b d.block h))
  where
    here : b ≡ d.block → receive len d r b ≡ r b
    here h = rw (h, eq-eqb d.block d.block refl) (by (brings len d))
      where
        by : (t : Bool) → cond (t && true) (first_piece (r d.block) d.piece) (r d.block) ≡ r d.block
        by true = first_stays (r d.block) d.piece e
        by false = refl

is_none : (o : Option (List ℕ)) → has o ≡ false → o ≡ none
is_none none e = refl
is_none (some piece) e = never (cc)

pub receive_new : (len : ℕ) (d : Delivery) (r : Received) → d.block < block_count len → length d.piece ≡ block_size → has (r d.block) ≡ false
    → receive len d r d.block ≡ some d.piece
unfolding receive brings
receive_new len d r inside sized e =
    rw (lt-ltb d.block (block_count len) inside, eq-eqb (length d.piece) block_size sized, eq-eqb d.block d.block refl, is_none (r d.block) e)

count_same : (n : ℕ) (r s : Received) → ((b : ℕ) → b < n → s b ≡ r b) → received_below n s ≡ received_below n r
unfolding received_below
count_same zero r s h = refl
count_same (suc n) r s h = rw (h n (omega arith), count_same n r s (λ b l. h b (omega arith)))

pub count_new : (n : ℕ) (r s : Received) (block : ℕ) → block < n → ((b : ℕ) → (b ≡ block → ⊥) → s b ≡ r b) → has (r block) ≡ false → has (s block) ≡ true
    → received_below n s ≡ received_below n r + 1
unfolding received_below
count_new zero r s block l h e f = absurd (omega arith)
count_new (suc n) r s block l h e f = on (eqb block n) (λ t. here (eqb-true block n t)) (λ t. below (eqb-false block n t) (λ g. count_new n r s block g h e f))
  where
    here : block ≡ n → received_below (suc n) s ≡ received_below (suc n) r + 1
    here t = rw (rw t at f, rw t at e, count_same n r s (λ b g. h b (omega arith))) (omega arith)

    below : (block ≡ n → ⊥) → (block < n → received_below n s ≡ received_below n r + 1) → received_below (suc n) s ≡ received_below (suc n) r + 1
    below t one = rw (h n (λ z. t (sym z))) (omega (arith, one (omega arith)))

pub count_nothing : (n : ℕ) → received_below n nothing ≡ 0
unfolding received_below
count_nothing zero = refl
count_nothing (suc n) = omega (arith, count_nothing n)
