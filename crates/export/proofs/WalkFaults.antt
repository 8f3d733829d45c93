-- The walk for a table is refused by the file's own faults only: rule 2.24.
-- Rests on the refusals of a chain (chain: ChainPlaces) and on the cases of the walk (table_walk: TableWalk).
use mathlib.Core.Path.{◌≡◌, refl, subst}
use mathlib.Core.Logic.{inl, inr, ⊎_elim}
use Prim.Native.Nat.{ℕ}
use native.Mathlib.Omega.{arith}
use Rattle.refusal.specs.declared.Fault.{Fault}
use Rattle.refusal.specs.Answer.{given, refused}
use Rattle.table.specs.declared.Table.{Table}
use Rattle.intake.specs.Memory.{Memory}
use Rattle.directory.specs.declared.Chain.{Chain}
use Rattle.page.specs.Found.{Rows}
use Rattle.chain.specs.Walk.{Walk}
use Rattle.chain.proofs.ChainPlaces.{file_faults}
use Rattle.table_walk.specs.Walk.{table_walk}
use Rattle.table_walk.proofs.TableWalk.{file_walk, table_walk_holds}
use Rattle.export.specs.OwnFault.{OwnFault}

-- a refusal is one of them
abbrev Own : Walk Rows → Type 0
Own (given p) = Unit {0}
Own (refused f) = OwnFault f

file_own : (c : Chain) (table : Table) (m : Memory) → Own (file_walk c table m)
file_own c table m = by (file_walk c table m) refl
  where
    by : (w : Walk Rows) → file_walk c table m ≡ w → Own w
    by (given p) e = tt
    by (refused f) e =
        let numbers = file_faults c table m.image m.map c.first_page f e in
        ⊎_elim (λ k. inl (omega (arith, k.0), k.1)) (λ k. inr k) numbers.range

pub table_walk_own : (len : ℕ) (m : Memory) (table : Table) (f : Fault) → table_walk len m table ≡ refused f → OwnFault f
table_walk_own len m table f e =
    subst Own e
    (table_walk_holds len m table Own tt (λ g n. inl (n.0, omega (arith, n.1))) (λ c _ _. file_own c table m))
