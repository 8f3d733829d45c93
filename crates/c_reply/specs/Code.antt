-- Rule 13.3: the code that a function of the C interface returns. A refusal has its own number, at most 63.
use Rattle.std.specs.Prelude.{ℕ}

-- Open, New, the held count of a packet, Full, found, or the number of beats
abbrev pub done : ℕ
done = 0

abbrev pub same : ℕ
same = 64

abbrev pub waiting : ℕ
waiting = 65

-- no block is missing
abbrev pub none : ℕ
none = 66
