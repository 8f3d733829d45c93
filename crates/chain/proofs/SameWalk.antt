-- Two page layers that hold the same pages, and agree on those that the walk reads, give the same walk: rules 7.3, 7.9 and 7.10.
--     comes, reads_here, reads_behind     the pages that a walk reads: the one it comes to, and those behind it
--     walk_from_agree     they agree on the pages that the walk reads: a page off the chain changes nothing
--     walk_from_same      they agree on the pages held: what stands on a page that is not held changes nothing
use mathlib.Core.Path.{◌≡◌, refl, ap, ◌∙◌}
use mathlib.Core.Bool.{Bool, true, false, cond, not, ◌&&◌, ◌||◌}
use mathlib.Core.List.{List, [], ◌∷◌}
use Prim.Native.Nat.{ℕ, zero, suc}
use lib.Dec.{eqb}
use borrow.Author.Tests.{not-false, eq-eqb, eqb-true}
use Rattle.lists.specs.Member.{is_member}
use Rattle.refusal.specs.Answer.{Answer, given, refused}
use Rattle.format.specs.Place.{linkable}
use Rattle.page.specs.Found.{Rows}
use Rattle.chain.specs.Walk.{Pages, Walk, walk, walk_from}
use Rattle.chain.specs.Reads.{is_given, comes_to, goes_on, reads, reads_from}
use Rattle.lists.proofs.Choice.{on, never, both_true, or_right, cond_agree}
use Rattle.chain.proofs.WalkStep.{read_then, behind}

-- the same pages are there and are held
pub record SameShape (a b : Pages) : Type 0 where
  pub count : a.page_count ≡ b.page_count
  pub last : (page : ℕ) → a.is_last page ≡ b.is_last page
  pub held : (page : ℕ) → linkable a.page_count page ≡ true → a.held page ≡ b.held page

-- a page reads alike and has the same next page
pub record SamePage (a b : Pages) (page : ℕ) : Type 0 where
  pub read : a.read page ≡ b.read page
  pub next : a.next page ≡ b.next page

cond_same : {A : Type 0} {x x' y y' : A} {p q : Bool} → p ≡ q → (p ≡ true → x ≡ x') → (p ≡ false → y ≡ y') → cond p x y ≡ cond q x' y'
cond_same {p = p} e f g = rw (← e) (cond_agree p f g)

-- behind a fault nothing is looked at
then_same : (r : Answer Rows) {t : Answer Rows} (v w : Walk Rows) → r ≡ t → (is_given r ≡ true → v ≡ w) → read_then r v ≡ read_then t w
then_same (given rows) v w e f = rw (f refl) (ap (λ (x : Answer Rows). read_then x w) e)
then_same (refused f) v w e g = ap (λ (x : Answer Rows). read_then x w) e

module _ (a : Pages) (fuel : ℕ) (met : List ℕ) (page : ℕ) where
  pub comes : linkable a.page_count page ≡ true → is_member page met ≡ false → a.held page ≡ true → comes_to a met page ≡ true
  unfolding comes_to
  comes i m h = rw (i, m, h)

  pub reads_here : comes_to a met page ≡ true → reads a (suc fuel) met page page ≡ true
  unfolding reads
  reads_here e = rw (e, eq-eqb page page refl)

  pub reads_behind : comes_to a met page ≡ true → is_given (a.read page) ≡ true → a.is_last page ≡ false
      → (q : ℕ) → reads a fuel (page ∷ met) (a.next page) q ≡ true → reads a (suc fuel) met page q ≡ true
  unfolding reads goes_on
  reads_behind e g l q r = rw (e, g, l) (or_right (eqb q page) r)

module _ {a b : Pages} (s : SameShape a b) where
  walk_agree : (fuel : ℕ) (met : List ℕ) (holder page : ℕ) → ((q : ℕ) → reads a fuel met page q ≡ true → SamePage a b q)
      → walk a fuel met holder page ≡ walk b fuel met holder page
  unfolding walk behind
  walk_agree zero met holder page each = refl
  walk_agree (suc fuel) met holder page each =
      cond_same (ap (λ (n : ℕ). not (linkable n page)) s.count) (λ _. refl)
      (λ i. let inside = not-false (linkable a.page_count page) i in
      cond_same {p = is_member page met} refl (λ _. refl)
      (λ m. cond_same (ap not (s.held page inside)) (λ _. refl)
      (λ h. let come = comes a fuel met page inside m (not-false (a.held page) h) in
      let same = each page (reads_here a fuel met page come) in
      then_same (a.read page) (behind a fuel met holder page) (behind b fuel met holder page) same.read
      (λ g. cond_same (s.last page) (λ _. refl)
      (λ l. walk_agree fuel (page ∷ met) page (a.next page) (λ q r. each q (reads_behind a fuel met page come g l q r))
      ∙ ap (walk b fuel (page ∷ met) page) same.next)))))

  pub walk_from_agree : (first : ℕ) → ((q : ℕ) → reads_from a first q ≡ true → SamePage a b q) → walk_from a first ≡ walk_from b first
  unfolding walk_from reads_from
  walk_from_agree first each = walk_agree (suc a.page_count) [] 0 first each ∙ ap (λ (n : ℕ). walk b (suc n) [] 0 first) s.count

-- a page that the walk reads is there and held
pub reads_held : (pages : Pages) (fuel : ℕ) (met : List ℕ) (page q : ℕ) → reads pages fuel met page q ≡ true
    → (linkable pages.page_count q ≡ true) × (pages.held q ≡ true)
unfolding reads comes_to
reads_held pages zero met page q e = never (cc)
reads_held pages (suc fuel) met page q e =
    let rest = reads pages fuel (page ∷ met) (pages.next page) q in
    let parts = both_true (comes_to pages met page) (eqb q page || (goes_on pages page && rest)) e in
    let come = both_true (linkable pages.page_count page) (not (is_member page met) && pages.held page) parts.0 in
    on (eqb q page) (λ t. rw (eqb-true q page t) (come.0, (both_true (not (is_member page met)) (pages.held page) come.1).1))
    (λ f. reads_held pages fuel (page ∷ met) (pages.next page) q (both_true (goes_on pages page) rest (rw f at parts.1)).1)

pub walk_from_same : {a b : Pages} → SameShape a b → ((page : ℕ) → linkable a.page_count page ≡ true → a.held page ≡ true → SamePage a b page)
    → (first : ℕ) → walk_from a first ≡ walk_from b first
unfolding reads_from
walk_from_same {a} s each first = walk_from_agree s first (λ q r. let h = reads_held a (suc a.page_count) [] first q r in each q h.0 h.1)
