-- Rule 14.26: the sorts of waveform, by their numbers, and the code of the section of each.
use Rattle.std.specs.Prelude.{cond, ℕ, eqb, Option, None, Some}
use Rattle.anlz.specs.Header.{four_bytes}
use Rattle.waveform.specs.declared.Wave.{Wave}
use Rattle.waveform.specs.declared.Wave.TheVariants.{Detail, ColorPreview, ColorDetail}

-- the sort of a number, if there is one: published as Waveform Detail, Waveform Color Preview and Waveform Color Detail
unfoldable pub sort_of : (number : ℕ) → Option Wave
sort_of number =
    cond (eqb number 3) (Some Detail)
    (cond (eqb number 4) (Some ColorPreview)
    (cond (eqb number 5) (Some ColorDetail)
    None))

-- P, W, V and 3, 4 or 5
abbrev pub wave_code : Wave → ℕ
wave_code Detail = four_bytes 0x50 0x57 0x56 0x33
wave_code ColorPreview = four_bytes 0x50 0x57 0x56 0x34
wave_code ColorDetail = four_bytes 0x50 0x57 0x56 0x35
