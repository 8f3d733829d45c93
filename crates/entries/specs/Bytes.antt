-- Rules 14.17, 14.18 and 14.30: the bytes of a tag that stand in its entries.
use Rattle.std.specs.Prelude.{Bool, ℕ}
use Rattle.lists.specs.Any.{any_from}
use Rattle.number.specs.Agree.{in_part}
use Rattle.entries.specs.Entries.{entry_at}

-- byte i of the tag stands in entry k, and passes a test as a byte of it
abbrev pub in_entry : (test : ℕ → Bool) (width k i : ℕ) → Bool
in_entry test width k i = in_part test (entry_at width k) width i

-- the same of one of so many entries
unfoldable pub in_entries : (test : ℕ → Bool) (width count i : ℕ) → Bool
in_entries test width count i = any_from (λ (k : ℕ). in_entry test width k i) count 0
