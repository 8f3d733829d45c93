-- Rule 13.9: the version, a number for each of its three parts.
use Rattle.std.specs.Prelude.{ℕ, ◌+◌, ◌*◌}

abbrev pub major : ℕ
major = 0

abbrev pub minor : ℕ
minor = 2

abbrev pub patch : ℕ
patch = 0

abbrev pub version : ℕ
version = 65_536 * major + 256 * minor + patch
