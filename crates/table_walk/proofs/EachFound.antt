-- What holds of each row of the pages that a walk reads holds of each row that it finds: rules 4.5 and 4.10.
-- Rests on the steps of the walk and on the pages that it reads (crate `chain`).
use mathlib.Core.Path.{◌≡◌, refl}
use mathlib.Core.Bool.{true}
use mathlib.Core.List.{List, [], ◌∷◌}
use Prim.Native.Nat.{ℕ, zero, suc}
use Rattle.page.specs.declared.Row.{Row}
use Rattle.page.specs.Found.{Rows}
use Rattle.refusal.specs.Answer.{Answer, given, refused}
use Rattle.chain.specs.Walk.{Pages, Walk, full, waiting, in_front, walk, walk_from}
use Rattle.chain.specs.Reads.{is_given, reads, reads_from}
use Rattle.lists.proofs.Choice.{cond_holds}
use Rattle.lists.proofs.Each.{Each, each_append, each_of}
use Rattle.chain.proofs.WalkStep.{read_then, behind, step_holds}
use Rattle.chain.proofs.SameWalk.{comes, reads_here, reads_behind}

-- P holds of each row found
abbrev pub EachFound : (Row → Type 0) → Walk Rows → Type 0
EachFound P (given (full rows pages)) = Each P rows
EachFound P (given (waiting page rows pages)) = Each P rows
EachFound P (refused f) = Unit {0}

pub found_of : (P Q : Row → Type 0) (w : Walk Rows) → ((row : Row) → P row → Q row) → EachFound P w → EachFound Q w
found_of P Q (given (full rows pages)) f e = each_of P Q rows f e
found_of P Q (given (waiting page rows pages)) f e = each_of P Q rows f e
found_of P Q (refused g) f e = tt

module _ (P : Row → Type 0) where
  found_front : (rows : Rows) → Each P rows → (w : Walk Rows) → EachFound P w → EachFound P (in_front rows w)
  found_front rows e (given (full rest n)) f = each_append P rows rest e f
  found_front rows e (given (waiting page rest n)) f = each_append P rows rest e f
  found_front rows e (refused g) f = tt

  found_read : (r : Answer Rows) → ((rows : Rows) → r ≡ given rows → Each P rows) → (w : Walk Rows) → (is_given r ≡ true → EachFound P w)
      → EachFound P (read_then r w)
  found_read (given rows) e w f = found_front rows (e rows refl) w (f refl)
  found_read (refused g) e w f = tt

  module _ (pages : Pages) where
    found_walk : (fuel : ℕ) (met : List ℕ) (holder page : ℕ)
        → ((q : ℕ) (rows : Rows) → reads pages fuel met page q ≡ true → pages.read q ≡ given rows → Each P rows)
        → EachFound P (walk pages fuel met holder page)
    unfolding walk behind
    found_walk zero met holder page each = tt
    found_walk (suc fuel) met holder page each =
        step_holds pages fuel met holder page (EachFound P) (λ _. tt) tt (λ _ _ _. tt)
        (λ i m h. let come = comes pages fuel met page i m h in
        found_read (pages.read page) (λ rows e. each page rows (reads_here pages fuel met page come) e) (behind pages fuel met holder page)
        (λ g. cond_holds (EachFound P) (pages.is_last page) (λ _. tt)
        (λ l. found_walk fuel (page ∷ met) page (pages.next page) (λ q rows r. each q rows (reads_behind pages fuel met page come g l q r)))))

    pub found_each : (first : ℕ) → ((q : ℕ) (rows : Rows) → reads_from pages first q ≡ true → pages.read q ≡ given rows → Each P rows)
        → EachFound P (walk_from pages first)
    unfolding walk_from reads_from
    found_each first each = found_walk (suc pages.page_count) [] 0 first each
