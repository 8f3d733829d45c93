-- Rules 14.14 and 14.24: what is made of so many entries, as a list: their number (`made_counted`), element k (`made_inside`), and none past
-- the last (`made_past`). For every width.
use mathlib.Core.Path.{◌≡◌, ◌∙◌}
use mathlib.Core.List.{[], map}
use Prim.Native.Nat.{ℕ, ◌<◌, ◌≤◌}
use native.Mathlib.Nat.{zero-add}
use native.Mathlib.Omega.{arith}
use lib.ListN.{length, get_or, length-map}
use Rattle.lists.specs.Alias.{Bytes}
use Rattle.refusal.specs.Fault.{fault}
use Rattle.refusal.specs.Answer.{given, refused}
use Rattle.anlz.specs.Element.{element_at}
use Rattle.anlz.proofs.ElementAt.{element_past, element_map}
use Rattle.entries.specs.Entries.{entry, entries}
use Rattle.entries.proofs.Filled.{entries_counted, entries_at}

module _ {A : Type 0} (f : Bytes → A) (width count : ℕ) (tag : Bytes) where
  pub made_counted : length (map f (entries width count tag)) ≡ count
  made_counted = length-map (entries width count tag) f ∙ entries_counted width tag count 0

  pub made_past : (k : ℕ) → count ≤ k → element_at k (map f (entries width count tag)) ≡ refused (fault 18 0)
  made_past k h = element_past k (map f (entries width count tag)) (omega (arith, made_counted))

  pub made_inside : (k : ℕ) → k < count → element_at k (map f (entries width count tag)) ≡ given (f (entry width tag k))
  made_inside k h =
      let here : get_or (entries width count tag) k [] ≡ entry width tag k = rw (zero-add k) at (entries_at width tag count 0 k h) in
      rw (← here) (element_map f [] k (entries width count tag) (omega (arith, entries_counted width tag count 0)))
