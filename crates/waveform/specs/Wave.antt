-- Rules 14.27 and 14.28: a section that holds a waveform, its fields in file order under the published names, and its entry k.
use Rattle.std.specs.Prelude.{Bool, true, not, ◌&&◌, ℕ, ◌+◌, leb, eqb}
use Rattle.lists.specs.Alias.{Bytes}
use Rattle.number.specs.Number.{be32}
use Rattle.refusal.specs.Fault.{fault}
use Rattle.refusal.specs.Answer.{Answer, given, refuse_if}
use Rattle.anlz.specs.declared.Section.{Section}
use Rattle.anlz.specs.Section.{tag_of}
use Rattle.entries.specs.Entries.{entry_at, fills}
use Rattle.waveform.specs.declared.Wave.{Wave}
use Rattle.waveform.specs.declared.Wave.TheVariants.{Detail, ColorPreview, ColorDetail}
use Rattle.waveform.specs.declared.WaveEntry.{WaveEntry}

abbrev pub len_entry_bytes : Bytes → ℕ
len_entry_bytes tag = be32 tag 0x0c

abbrev pub len_entries : Bytes → ℕ
len_entries tag = be32 tag 0x10

-- the bytes of an entry of each sort
abbrev pub wave_width : Wave → ℕ
wave_width Detail = 1
wave_width ColorPreview = 6
wave_width ColorDetail = 2

-- whether a sort can have so many entries
abbrev pub count_holds : (wave : Wave) (count : ℕ) → Bool
count_holds Detail count = true
count_holds ColorPreview count = eqb count 1200
count_holds ColorDetail count = true

-- Rule 14.27: is true exactly when width and number of the entries are those of the sort, and they fill the tag
unfoldable pub wave_holds : (wave : Wave) (tag : Bytes) → Bool
wave_holds wave tag =
    eqb (len_entry_bytes tag) (wave_width wave)
    && (count_holds wave (len_entries tag) && fills (wave_width wave) (len_entries tag) tag)

-- Rule 14.28: where entry k stands in the file, and its width
abbrev pub wave_entry : (wave : Wave) (section : Section) (k : ℕ) → WaveEntry
wave_entry wave section k = record { place = section.place + entry_at (wave_width wave) k; width = wave_width wave }

-- Rules 14.27 and 14.28, in this order: entry k of this section
unfoldable pub entry_in : (wave : Wave) (file : Bytes) (section : Section) (k : ℕ) → Answer WaveEntry
entry_in wave file section k =
    refuse_if (not (wave_holds wave (tag_of file section))) (fault 27 0)
    (refuse_if (leb (len_entries (tag_of file section)) k) (fault 18 0)
    (given (wave_entry wave section k)))
