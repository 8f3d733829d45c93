-- Rule 1.10: no call reads or writes bytes past L or words past those in use. Laws about it compare two memories.
use Rattle.std.specs.Prelude.{◌≡◌, ℕ, length, take, drop}
use Rattle.bitmap.specs.Words.{word_count}
use Rattle.intake.specs.Memory.{Memory}

-- two memories that differ at most in bytes past L and words past those in use
pub record SameInUse (len : ℕ) (m n : Memory) : Type 0 where
  pub image_length : length m.image ≡ length n.image
  pub map_length : length m.map ≡ length n.map
  pub bytes : take len m.image ≡ take len n.image
  pub words : take (word_count len) m.map ≡ take (word_count len) n.map

-- two memories that agree there
pub record SamePast (len : ℕ) (m n : Memory) : Type 0 where
  pub bytes : drop len m.image ≡ drop len n.image
  pub words : drop (word_count len) m.map ≡ drop (word_count len) n.map
