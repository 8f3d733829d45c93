-- The walk's refusals: each is 11, one that reading a page of the chain gives, or 16, and what it carries: rules 2.20 and 4.2 to 4.5.
use mathlib.Core.Path.{◌≡◌, refl, subst}
use mathlib.Core.Bool.{true, false}
use mathlib.Core.List.{List, [], ◌∷◌}
use mathlib.Core.Logic.{◌⊎◌, inl, inr, ⊎_elim}
use Prim.Native.Nat.{ℕ, zero, suc, ◌≤◌}
use native.Mathlib.Omega.{arith}
use Rattle.refusal.specs.declared.Fault.{Fault}
use Rattle.refusal.specs.Fault.{fault}
use Rattle.refusal.specs.Answer.{Answer, given, refused}
use Rattle.format.specs.Place.{linkable}
use Rattle.page.specs.Found.{Rows}
use Rattle.chain.specs.Walk.{Pages, Walk, full, waiting, in_front, walk, walk_from}
use Rattle.lists.proofs.Choice.{cond_holds}
use Rattle.page.proofs.PageAnswer.{PageFault}
use Rattle.chain.proofs.WalkStep.{read_then, behind, step_holds}

-- a fault of the chain that starts at first
pub data ChainFault (pages : Pages) (first : ℕ) : Fault → Type 0 where
  first_outside : linkable pages.page_count first ≡ false → ChainFault pages first (fault 11 0)
  next_outside : (page : ℕ) → linkable pages.page_count page ≡ true → pages.held page ≡ true → linkable pages.page_count (pages.next page) ≡ false
      → ChainFault pages first (fault 11 page)
  page_fault : (page : ℕ) {f : Fault} → linkable pages.page_count page ≡ true → pages.held page ≡ true → pages.read page ≡ refused f
      → ChainFault pages first f
  loop : ChainFault pages first (fault 16 0)

module _ (pages : Pages) (first : ℕ) where
  -- a refusal of the walk is such a fault
  abbrev FaultBy : Walk Rows → Type 0
  FaultBy (given (full rows n)) = Unit {0}
  FaultBy (given (waiting page rows n)) = Unit {0}
  FaultBy (refused f) = ChainFault pages first f

  -- where the link to a page stands
  abbrev Linked : ℕ → ℕ → Type 0
  Linked holder page =
      ((holder ≡ 0) × (page ≡ first)) ⊎ ((linkable pages.page_count holder ≡ true) × (pages.held holder ≡ true) × (page ≡ pages.next holder))

  outside : (holder page : ℕ) → Linked holder page → linkable pages.page_count page ≡ false → ChainFault pages first (fault 11 holder)
  outside holder page l o =
      ⊎_elim (λ d. rw d.0 (first_outside (rw d.1 at o))) (λ d. next_outside holder d.0 d.1 (rw d.2 at o)) l

  fault_front : (rows : Rows) (w : Walk Rows) → FaultBy w → FaultBy (in_front rows w)
  fault_front rows (given (full rest n)) p = tt
  fault_front rows (given (waiting page rest n)) p = tt
  fault_front rows (refused f) p = p

  fault_read : (page : ℕ) (r : Answer Rows) → pages.read page ≡ r → linkable pages.page_count page ≡ true → pages.held page ≡ true
      → (w : Walk Rows) → FaultBy w → FaultBy (read_then r w)
  fault_read page (given rows) e i h w p = fault_front rows w p
  fault_read page (refused f) e i h w p = page_fault page i h e

  walk_fault : (fuel : ℕ) (met : List ℕ) (holder page : ℕ) → Linked holder page → FaultBy (walk pages fuel met holder page)
  unfolding walk behind
  walk_fault zero met holder page l = loop
  walk_fault (suc fuel) met holder page l =
      step_holds pages fuel met holder page FaultBy (outside holder page l) loop (λ _ _ _. tt)
      (λ i m h. fault_read page (pages.read page) refl i h (behind pages fuel met holder page)
      (cond_holds FaultBy (pages.is_last page) (λ _. tt)
      (λ _. walk_fault fuel (page ∷ met) page (pages.next page) (inr (i, h, refl)))))

  from_fault : FaultBy (walk_from pages first)
  unfolding walk_from
  from_fault = walk_fault (suc pages.page_count) [] 0 first (inl (refl, refl))

  pub chain_fault : (f : Fault) → walk_from pages first ≡ refused f → ChainFault pages first f
  chain_fault f e = subst FaultBy e from_fault

-- its number and what it carries: 0, or a page of the file; an entry with 14 and 15 alone
pub record Numbered (count : ℕ) (f : Fault) : Type 0 where
  pub range : ((11 ≤ f.number) × (f.number ≤ 16)) ⊎ (f.number ≡ 25)
  pub carries : (f.value ≡ 0) ⊎ (linkable count f.value ≡ true)
  pub loop_carries : f.number ≡ 16 → (f.value ≡ 0) × (f.entry ≡ 0)
  pub entry_carried : (f.entry ≡ 0) ⊎ (14 ≤ f.number) × (f.number ≤ 15)

-- where a page's faults are 12 to 15 and 25 and carry the page
pub fault_numbered : (pages : Pages) (first : ℕ)
    → ((page : ℕ) (f : Fault) → pages.read page ≡ refused f → PageFault page f)
    → (f : Fault) → ChainFault pages first f → Numbered pages.page_count f
fault_numbered pages first reads f (first_outside o) =
    record { range = inl (omega arith, omega arith); carries = inl refl; loop_carries = λ e. (refl, refl); entry_carried = inl refl }
fault_numbered pages first reads f (next_outside page i h o) =
    record { range = inl (omega arith, omega arith); carries = inr i; loop_carries = λ e. absurd (omega arith); entry_carried = inl refl }
fault_numbered pages first reads f (page_fault page i h e) =
    let r = reads page f e in
    record {
      range = ⊎_elim (λ k. inl (omega (arith, k.0), omega (arith, k.1))) (λ k. inr k) r.0;
      carries = inr (rw r.1 i);
      loop_carries = λ l. absurd (⊎_elim (λ k. omega (arith, k.1)) (λ k. omega arith) r.0);
      entry_carried = r.2;
    }
fault_numbered pages first reads f loop =
    record { range = inl (omega arith, omega arith); carries = inl refl; loop_carries = λ e. (refl, refl); entry_carried = inl refl }
