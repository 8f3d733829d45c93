-- Rule 2.24: the faults of the file's own are 9 to 16 and 25.
use Rattle.std.specs.Prelude.{◌≡◌, ◌⊎◌, ◌≤◌}
use Rattle.refusal.specs.declared.Fault.{Fault}

abbrev pub OwnFault : (f : Fault) → Type 0
OwnFault f = ((9 ≤ f.number) × (f.number ≤ 16)) ⊎ (f.number ≡ 25)
