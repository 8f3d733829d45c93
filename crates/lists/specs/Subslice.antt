-- A part of some bytes.
use Rattle.std.specs.Prelude.{ℕ, ◌-◌, take, drop}
use Rattle.lists.specs.Alias.{Bytes}

-- the bytes from start up to end, as far as there are such
abbrev pub subslice : (s : Bytes) (start end : ℕ) → Bytes
subslice s start end = take (end - start) (drop start s)
