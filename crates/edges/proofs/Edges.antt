-- Rule 9.1: C1 to C6 and C9 to C12 hold together, by computation of the definitions that the contracts cite.
use mathlib.Core.Path.{refl}
use Rattle.number.specs.Number.{le16, le24, le32}
use Rattle.table.specs.Table.{holds_codes}
use Rattle.text.specs.Code.{is_code}
use Rattle.text.specs.Text.{head_size, whole_size, is_inside, plain_text, text_in, read_text}
use Rattle.row.specs.Check.{check_texts, check_row}
use Rattle.row.specs.Slot.{slot_text}
use Rattle.page.specs.Header.{number_agrees, type_agrees, rowless, entries}
use Rattle.page.specs.Index.{index_size}
use Rattle.page.specs.Read.{index_fits, index_good, read_page}
use Rattle.intake.specs.Length.{allowed_length}
use Rattle.intake.specs.Check.{check_lengths}
use Rattle.intake.specs.Open.{opening}
use Rattle.edges.specs.Cases.{cases, AllHold}

pub edges : AllHold cases
unfolding le16 le24 le32 holds_codes head_size whole_size is_inside is_code plain_text text_in read_text check_texts check_row slot_text
    number_agrees type_agrees rowless entries index_size index_fits index_good read_page allowed_length check_lengths opening
edges =
    (refl, (refl, (refl, (refl, (refl, (refl, (refl, (refl, (refl, (refl, (refl, (refl, (refl, (refl, (refl, tt)))))))))))))))
