-- Rules 2.1 to 2.4, with which a call begins; `rest` is what answers where none of them does.
use Rattle.std.specs.Prelude.{not, ℕ, length, ltb}
use Rattle.lists.specs.Alias.{Bytes, Words}
use Rattle.refusal.specs.Answer.{Answer, refuse_if}
use Rattle.refusal.specs.Fault.{fault}
use Rattle.bitmap.specs.Words.{word_count}
use Rattle.bitmap.specs.Spare.{spare_bit}
use Rattle.intake.specs.Length.{allowed_length}
use Rattle.intake.specs.Memory.{Memory}

-- Rule 2.26: 1, 2, 3
unfoldable pub check_lengths : {A : Type 0} (len : ℕ) (image : Bytes) (map : Words) (rest : Answer A) → Answer A
check_lengths len image map rest =
    refuse_if (not (allowed_length len)) (fault 1 0)
    (refuse_if (ltb (length image) len) (fault 2 0)
    (refuse_if (ltb (length map) (word_count len)) (fault 3 0)
    rest))

-- Rules 2.25, 2.27, 2.28 and 2.31: 1, 2, 3, 4, before every call after the opening that can be refused
unfoldable pub check_call : {A : Type 0} (len : ℕ) (m : Memory) (rest : Answer A) → Answer A
check_call len m rest =
    check_lengths len m.image m.map
    (refuse_if (spare_bit len m.map) (fault 4 0)
    rest)
