-- Rule 7.16 as one theorem about the layout and bounds (`EveryLayout`): of the image they depend on the relevant bytes of block 0 alone.
use Rattle.std.specs.Prelude.{◌≡◌, ℕ}
use Rattle.lists.specs.Alias.{Bytes, Words}
use Rattle.number.specs.Agree.{DecidedBy}
use Rattle.intake.specs.Memory.{memory}
use Rattle.intake.specs.InUse.{SameInUse}
use Rattle.export.specs.Layout.{ask_layout, ask_bounds}
use Rattle.depend.specs.Bytes.{first_block_byte}

pub record LayoutDependence (len : ℕ) (map : Words) (image : Bytes) : Type 0 where
  pub layout : DecidedBy (first_block_byte (memory image map)) (λ other. ask_layout len (memory other map)) image
  pub bounds : (number : ℕ) → DecidedBy (first_block_byte (memory image map)) (λ other. ask_bounds len (memory other map) number) image
  -- Rule 7.11
  pub in_use : (other : Bytes) (words : Words) → SameInUse len (memory image map) (memory other words)
      → (ask_layout len (memory image map) ≡ ask_layout len (memory other words))
      × ((number : ℕ) → ask_bounds len (memory image map) number ≡ ask_bounds len (memory other words) number)

-- for every length, map and image
abbrev pub EveryLayout : Type 0
EveryLayout = (len : ℕ) (map : Words) (image : Bytes) → LayoutDependence len map image
