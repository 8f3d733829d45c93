-- Rules 8.3 to 8.5 and 8.16: the blocks received so far, from the arguments of opening, deliveries and packets alone.
-- Document 01 calls them the book of a run.
use Rattle.std.specs.Prelude.{Bool, true, false, cond, ◌&&◌, List, [], ◌∷◌, ℕ, zero, suc, ◌+◌, length, eqb, ltb}
use Rattle.std.proofs.Math.Option.{Option, none, some}
use Rattle.lists.specs.Alias.{Bytes}
use Rattle.format.specs.Size.{block_size}
use Rattle.bitmap.specs.Words.{block_count}
use Rattle.intake.specs.Deliver.{Delivery}

-- for each number a block or none
abbrev pub Received : Type 0
Received = ℕ → Option Bytes

-- Rule 8.3: at first none
abbrev pub nothing : Received
nothing b = none

-- Rule 8.4: whether a delivery brings a block
unfoldable pub brings : ℕ → Delivery → Bool
brings len d = ltb d.block (block_count len) && eqb (length d.piece) block_size

-- Rule 8.4: what came first stays
abbrev pub first_piece : Option Bytes → Bytes → Option Bytes
first_piece none piece = some piece
first_piece (some first) piece = some first

-- Rules 8.4 and 8.5: the received blocks after a delivery
unfoldable pub receive : (len : ℕ) (d : Delivery) (r : Received) → Received
receive len d r b = cond (brings len d && eqb b d.block) (first_piece (r b) d.piece) (r b)

-- the same after deliveries one after the other
unfoldable pub receive_each : (len : ℕ) (deliveries : List Delivery) (r : Received) → Received
receive_each len [] r = r
receive_each len (d ∷ rest) r = receive_each len rest (receive len d r)

-- whether there is a block
abbrev pub has : Option Bytes → Bool
has none = false
has (some piece) = true

-- how many of the blocks below n were received
unfoldable pub received_below : ℕ → Received → ℕ
received_below zero r = 0
received_below (suc n) r = received_below n r + cond (has (r n)) 1 0
