-- Where every page held in one layer is held in another and reads alike there, Full and refusals stay, and what Waiting found stays in front.
-- Rules 8.10 to 8.12.
-- Rests on the steps of the walk (proofs/WalkStep).
use mathlib.Core.Path.{◌≡◌, refl, sym, ap, subst, ◌∙◌}
use mathlib.Core.Bool.{Bool, true}
use mathlib.Core.List.{List, [], ◌∷◌, ◌++◌}
use Prim.Native.Nat.{ℕ, zero, suc}
use Rattle.lists.specs.Member.{is_member}
use Rattle.refusal.specs.Answer.{Answer, given, refused}
use Rattle.format.specs.Place.{linkable}
use Rattle.page.specs.Found.{Rows}
use Rattle.chain.specs.Walk.{Pages, Walk, full, waiting, in_front, walk, walk_from}
use Rattle.chain.specs.Begins.{Begins}
use Rattle.lists.proofs.Choice.{on}
use Rattle.chain.proofs.WalkStep.{read_then, behind, step_outside, step_met, step_waiting, step_read}

-- a later walk that is Full or Waiting begins with these rows
abbrev pub BeginsWith : Rows → Walk Rows → Type 0
BeginsWith rows (given (full all pages)) = Begins rows all
BeginsWith rows (given (waiting page all pages)) = Begins rows all
BeginsWith rows (refused f) = Unit {0}

-- with more pages held, Full and refusals stay, and what Waiting found stays in front
abbrev pub Grows : Walk Rows → Walk Rows → Type 0
Grows (given (full rows pages)) later = later ≡ given (full rows pages)
Grows (given (waiting page rows pages)) later = BeginsWith rows later
Grows (refused f) later = later ≡ refused f

pub record Grown (a b : Pages) : Type 0 where
  pub count : a.page_count ≡ b.page_count
  pub last : (page : ℕ) → a.is_last page ≡ b.is_last page
  pub held : (page : ℕ) → linkable a.page_count page ≡ true → a.held page ≡ true → b.held page ≡ true
  pub read : (page : ℕ) → linkable a.page_count page ≡ true → a.held page ≡ true → a.read page ≡ b.read page
  pub next : (page : ℕ) → linkable a.page_count page ≡ true → a.held page ≡ true → a.next page ≡ b.next page

pub begins_none : {A : Type 0} (all : List A) → Begins [] all
unfolding Begins
begins_none all = refl

pub begins_front : {A : Type 0} (rows some all : List A) → Begins some all → Begins (rows ++ some) (rows ++ all)
unfolding Begins
begins_front [] some all e = e
begins_front {A} (row ∷ rows) some all e = ap (λ (l : List A). row ∷ l) (begins_front rows some all e)

pub begins_any : (w : Walk Rows) → BeginsWith [] w
begins_any (given (full all pages)) = begins_none all
begins_any (given (waiting page all pages)) = begins_none all
begins_any (refused f) = tt

with_front : (rows some : Rows) (w : Walk Rows) → BeginsWith some w → BeginsWith (rows ++ some) (in_front rows w)
with_front rows some (given (full all pages)) e = begins_front rows some all e
with_front rows some (given (waiting page all pages)) e = begins_front rows some all e
with_front rows some (refused f) e = tt

grows_front : (rows : Rows) (v w : Walk Rows) → Grows v w → Grows (in_front rows v) (in_front rows w)
grows_front rows (given (full some pages)) w e = ap (in_front rows) e
grows_front rows (given (waiting page some pages)) w e = with_front rows some w e
grows_front rows (refused f) w e = ap (in_front rows) e

grows_read : (r : Answer Rows) (v w : Walk Rows) → Grows v w → Grows (read_then r v) (read_then r w)
grows_read (given rows) v w e = grows_front rows v w e
grows_read (refused f) v w e = refl

module _ {a b : Pages} (g : Grown a b) where
  inside_too : (page : ℕ) {t : Bool} → linkable a.page_count page ≡ t → linkable b.page_count page ≡ t
  inside_too page e = ap (λ (n : ℕ). linkable n page) (sym g.count) ∙ e

  last_too : (page : ℕ) {t : Bool} → a.is_last page ≡ t → b.is_last page ≡ t
  last_too page e = sym (g.last page) ∙ e

  walk_grows : (fuel : ℕ) (met : List ℕ) (holder page : ℕ) → Grows (walk a fuel met holder page) (walk b fuel met holder page)
  unfolding walk behind
  walk_grows zero met holder page = refl
  walk_grows (suc fuel) met holder page =
      on (linkable a.page_count page)
      (λ i. on (is_member page met)
      (λ m. rw (step_met a fuel met holder page i m, step_met b fuel met holder page (inside_too page i) m) refl)
      (λ m. on (a.held page)
      (λ h. rw (step_read a fuel met holder page i m h, step_read b fuel met holder page (inside_too page i) m (g.held page i h), ← g.read page i h)
      (grows_read (a.read page) (behind a fuel met holder page) (behind b fuel met holder page)
      (on (a.is_last page) (λ l. rw (l, last_too page l) refl)
      (λ l. rw (l, last_too page l, ← g.next page i h) (walk_grows fuel (page ∷ met) page (a.next page))))))
      (λ h. rw (step_waiting a fuel met holder page i m h) (begins_any (walk b (suc fuel) met holder page)))))
      (λ o. rw (step_outside a fuel met holder page o, step_outside b fuel met holder page (inside_too page o)) refl)

  pub walk_from_grows : (first : ℕ) → Grows (walk_from a first) (walk_from b first)
  unfolding walk_from
  walk_from_grows first =
      subst (λ (n : ℕ). Grows (walk_from a first) (walk b (suc n) [] 0 first)) g.count (walk_grows (suc a.page_count) [] 0 first)
