-- Rule 9.5: no body is longer than a delivery's, and what is read of one is a front of the buffer.
use mathlib.Core.Path.{◌≡◌, sym}
use mathlib.Core.List.{List, ◌++◌}
use Prim.Native.Nat.{ℕ, ◌+◌, ◌≤◌}
use native.Mathlib.Omega.{arith}
use lib.ListN.{length, take, length-append}
use lib.Seq.{length-take-le}
use lib.Dec.{eqb}
use Rattle.lists.proofs.Choice.{on}
use Rattle.format.specs.Size.{block_size}
use Rattle.desk_steps.specs.Command.{number_size, body_size}

pub body_size_most : (kind : ℕ) → body_size kind ≤ number_size + block_size
unfolding body_size
body_size_most kind =
    on (eqb kind 1) (λ e. rw e (omega arith)) (λ e.
    on (eqb kind 2) (λ f. rw (e, f) (omega arith)) (λ f.
    on (eqb kind 3) (λ g. rw (e, f, g) (omega arith)) (λ g. rw (e, f, g) (omega arith))))

pub counts_longer : {n : ℕ} (front rest : List ℕ) → (n ≤ length front) × (n ≡ length (take n front)) → (n ≤ length (front ++ rest)) × (n ≡ length (take n (front ++ rest)))
counts_longer {n} front rest h =
    let fits : n ≤ length (front ++ rest) = omega (arith, h.0, length-append front rest) in
    (fits, sym (length-take-le n (front ++ rest) fits))
