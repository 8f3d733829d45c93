-- The run before an element, from the element back: rule 5.30.
--     run_back      it is the front of the places before it, in reverse, that lies on the page
--     run_counted   as many of them as the page has bytes, or fewer
use mathlib.Core.Path.{◌≡◌, refl, ap, ◌∙◌}
use mathlib.Core.Bool.{Bool}
use mathlib.Core.List.{[], ◌∷◌, reverse}
use Prim.Native.Nat.{ℕ, zero, suc, ◌/◌, ◌<◌, ◌≤◌, min}
use native.Mathlib.Nat.{add_comm}
use native.Mathlib.Omega.{arith}
use lib.ListN.{length, take, get_or, length-take}
use lib.Seq.{take-suc}
use lib.Dec.{eqb}
use Rattle.std.specs.List.{prefix_len}
use Rattle.std.proofs.lemmas.List.{reverse-append}
use Rattle.std.proofs.lemmas.List.Folds.{length-prefix_len}
use Rattle.lists.specs.Alias.{Places}
use Rattle.listed.specs.Rank.{run_before}

-- whether a place lies on this page
abbrev pub on_page : (size page place : ℕ) → Bool
on_page size page place = eqb (place / size) page

module _ (size : ℕ) (list : Places) (page : ℕ) where
  pub run_back : (i : ℕ) → i ≤ length list → prefix_len (on_page size page) (reverse (take i list)) ≡ run_before size list page i
  unfolding run_before
  run_back zero h = refl
  run_back (suc i) h =
      let one : i < length list = omega arith in
      rw (take-suc list i 0 one, reverse-append (take i list) (get_or list i 0 ∷ []), run_back i (omega arith), add_comm 1 (run_before size list page i))

  pub run_counted : (i : ℕ) → i ≤ length list
      → length (take size (take (prefix_len (on_page size page) (reverse (take i list))) (reverse (take i list)))) ≡ min size (run_before size list page i)
  run_counted i h =
      let back = reverse (take i list) in
      length-take size (take (prefix_len (on_page size page) back) back)
      ∙ ap (min size) (length-prefix_len (on_page size page) back ∙ run_back i h)
