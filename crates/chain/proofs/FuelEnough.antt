-- The fuel of the walk never runs out: with more fuel it is the same walk (rule 4.3 needs no bound of its own).
-- The pages met differ and lie in 1..P-1, so they are fewer than P (crate `lists`, `distinct_few`).
use mathlib.Core.Path.{◌≡◌, refl, ap}
use mathlib.Core.Bool.{true, false, not}
use mathlib.Core.List.{List, [], ◌∷◌}
use mathlib.Core.Logic.{⊎_elim}
use Prim.Native.Nat.{ℕ, zero, suc, ◌+◌, ◌-◌, ◌<◌, ◌≤◌}
use native.Mathlib.Omega.{arith}
use native.Mathlib.Nat.{suc-add}
use lib.ListN.{length}
use borrow.Author.Tests.{not-false}
use Rattle.lists.specs.Member.{is_member}
use Rattle.lists.specs.Distinct.{Distinct}
use Rattle.format.specs.Place.{linkable}
use Rattle.chain.specs.Walk.{Pages, walk, walk_from}
use Rattle.lists.proofs.Choice.{cond_agree, never}
use Rattle.lists.proofs.Member.{member_cases, distinct_few}
use Rattle.chain.proofs.Linkable.{inside_both}
use Rattle.chain.proofs.WalkStep.{read_then}

-- the pages met differ and lie in 1..P-1
pub record Sound (count : ℕ) (met : List ℕ) : Type 0 where
  pub distinct : Distinct met
  pub inside : (page : ℕ) → is_member page met ≡ true → linkable count page ≡ true

pub sound_none : (count : ℕ) → Sound count []
unfolding is_member
sound_none count = record { distinct = tt; inside = λ page e. never (cc) }

pub sound_more : {count : ℕ} {met : List ℕ} (page : ℕ) → Sound count met → linkable count page ≡ true → is_member page met ≡ false → Sound count (page ∷ met)
sound_more {met = met} page s i e =
    record {
      distinct = (e, s.distinct);
      inside = λ other m. ⊎_elim (λ q. rw q i) (λ q. s.inside other q) (member_cases other page met m);
    }

pub few : (count : ℕ) (met : List ℕ) → Distinct met → ((page : ℕ) → is_member page met ≡ true → linkable count page ≡ true) → length met ≤ count - 1
few count met d inside = distinct_few count met d (λ page m. inside_both count page (inside page m))

module _ (pages : Pages) where
  pub fuel_more : (fuel more : ℕ) (met : List ℕ) (holder page : ℕ) → Sound pages.page_count met → pages.page_count < fuel + length met
      → walk pages fuel met holder page ≡ walk pages (fuel + more) met holder page
  unfolding walk
  fuel_more zero more met holder page s h = absurd (omega (arith, few pages.page_count met s.distinct s.inside))
  fuel_more (suc fuel) more met holder page s h =
      let inside = linkable pages.page_count page in
      rw (suc-add fuel more)
      (cond_agree (not inside) (λ _. refl)
      (λ i. cond_agree (is_member page met) (λ _. refl)
      (λ m. cond_agree (not (pages.held page)) (λ _. refl)
      (λ _. ap (read_then (pages.read page)) (cond_agree (pages.is_last page) (λ _. refl)
      (λ _. fuel_more fuel more (page ∷ met) page (pages.next page) (sound_more page s (not-false inside i) m) (omega arith)))))))

  pub fuel_enough : (first more : ℕ) → walk_from pages first ≡ walk pages (suc pages.page_count + more) [] 0 first
  unfolding walk_from
  fuel_enough first more = fuel_more (suc pages.page_count) more [] 0 first (sound_none pages.page_count) (omega arith)
