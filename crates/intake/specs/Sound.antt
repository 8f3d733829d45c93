-- Rules 2.1 to 2.4: the length and the buffers of a file pass them all.
use Rattle.std.specs.Prelude.{◌≡◌, ℕ}
use Rattle.refusal.specs.Answer.{given}
use Rattle.intake.specs.Memory.{Memory}
use Rattle.intake.specs.Check.{check_call}

-- none of refusals 1 to 4 applies
abbrev pub Sound : (len : ℕ) (m : Memory) → Type 0
Sound len m = check_call {A = Unit} len m (given tt) ≡ given tt
