-- Rules 9.14, 9.15: by computation; elsewhere since the slot holds no codes, and C12 in every slot since `41` is not `03`.
use mathlib.Core.Path.{refl}
use mathlib.Core.Bool.{and-false}
use Rattle.number.specs.Number.{le16}
use Rattle.table.specs.Table.{holds_codes}
use Rattle.text.specs.Zero.{first_zero}
use Rattle.text.specs.Code.{is_code, code_length}
use Rattle.text.specs.Text.{head_size, whole_size, is_inside, plain_text, text_in, read_text}
use Rattle.edges.specs.Codes.{EverySlot, InIsrc, Elsewhere}

pub every_slot : EverySlot
unfolding le16 head_size whole_size is_inside is_code plain_text text_in read_text
every_slot table slot = (refl, (refl, (refl, (rw (and-false (holds_codes table slot)) refl, tt))))

pub codes_hold : InIsrc
unfolding le16 holds_codes first_zero head_size whole_size is_inside is_code code_length plain_text text_in read_text
codes_hold = (refl, (refl, (refl, (refl, (refl, (refl, (refl, (refl, (refl, (refl, (refl, (refl, tt))))))))))))

pub elsewhere_hold : Elsewhere
unfolding le16 holds_codes head_size whole_size is_inside is_code plain_text text_in read_text
elsewhere_hold table slot e =
    (rw e refl, (rw e refl, (rw e refl, (rw e refl, (rw e refl, (rw e refl, (rw e refl, (refl, (rw e refl, (rw e refl, (rw e refl, (refl, tt))))))))))))
