-- The loop of `fill_rows`: the places of the entries before i stand in the list, and the whole list is that of the entries left. Rule 4.10.
--     begin          before the first entry
--     absent, next   after an entry that is absent, or present
--     end            after the last entry
use mathlib.Core.Path.{◌≡◌, refl, sym, ap, ◌∙◌}
use mathlib.Core.Bool.{true, false}
use mathlib.Core.List.{List}
use Prim.Native.Nat.{ℕ, suc, ◌+◌, ◌-◌, ◌<◌, ◌≤◌}
use native.Mathlib.Nat.{sub-zero}
use native.Mathlib.Numerals.{add-one}
use native.Mathlib.Omega.{arith}
use lib.ListN.{length, set, length-set}
use lib.Seq.{sets}
use Rattle.lists.specs.Alias.{Bytes}
use Rattle.lists.specs.Write.{written}
use Rattle.page.specs.Index.{present, row_start, present_from}
use Rattle.page.specs.Read.{entry_places}
use Rattle.page.proofs.EntriesInside.{entry_absent, entry_present, entry_none}

-- entries before i are done, and their places stand in the list before index at
pub record Filling (start : ℕ) (page : Bytes) (n : ℕ) (list₀ : List ℕ) (i at : ℕ) (list : List ℕ) : Type 0 where
  pub entry : i ≤ n
  pub index : at ≤ i
  pub size : length list ≡ length list₀
  pub count : length (present_from page n 0) ≡ at + length (present_from page (n - i) i)
  pub rest : written list₀ (entry_places start page (present_from page n 0)) ≡ sets list at (entry_places start page (present_from page (n - i) i))

pub begin : (start : ℕ) (page : Bytes) (n : ℕ) (list : List ℕ) → Filling start page n list 0 0 list
begin start page n list =
    record { entry = omega arith; index = omega arith; size = refl; count = rw (sub-zero n) (omega arith); rest = rw (sub-zero n) }

module _ {start : ℕ} {page : Bytes} {n : ℕ} {list₀ : List ℕ} {i at : ℕ} {list : List ℕ} (f : Filling start page n list₀ i at list) where
  pub absent : i < n → present page i ≡ false → Filling start page n list₀ (i + 1) at list
  absent h e =
      let z = entry_absent page h e in
      record { entry = omega arith; index = omega arith; size = f.size; count = rw z at f.count; rest = rw z at f.rest }

  pub next : {row : ℕ} {list' : List ℕ} → i < n → present page i ≡ true → row ≡ row_start page i → list' ≡ set list at (start + row)
      → Filling start page n list₀ (i + 1) (at + 1) list'
  next {row} {list'} h e s l =
      let z = entry_present page h e in
      let c : length (present_from page n 0) ≡ at + suc (length (present_from page (n - (i + 1)) (i + 1))) = rw z at f.count in
      record {
        entry = omega arith;
        index = omega arith;
        size = ap length l ∙ length-set list at (start + row) ∙ f.size;
        count = omega arith;
        rest = rw z at f.rest ∙ rw (add-one at, l, s);
      }

  pub end : n ≤ i → (at ≡ length (present_from page n 0)) × (list ≡ written list₀ (entry_places start page (present_from page n 0)))
  end h =
      let z = entry_none page n i h in
      let c : length (present_from page n 0) ≡ at + 0 = rw z at f.count in
      (omega arith, sym (rw z at f.rest))
