-- Rules 2.1 to 2.21, 2.32: each refusal's number and what it carries.
use Rattle.std.specs.Prelude.{◌≡◌, ℕ, List, ◌++◌, codes}
use Rattle.std.specs.Fmt.{decimal}
use Rattle.refusal.specs.declared.Fault.{Fault}
use Rattle.refusal.specs.declared.Refusal.{Refusal}
use Rattle.refusal.specs.declared.Refusal.TheVariants.{Length, ImageShort, MapShort, MapSpare, BlockNumber, PieceSize, BlockDiffers, TableType}
use Rattle.refusal.specs.declared.Refusal.TheVariants.{FileHeader, NoPointer, PageLink, PageNumber, RowIndex, RowShort, TextFault, ChainLoop}
use Rattle.refusal.specs.declared.Refusal.TheVariants.{ListShort, NoRow, NoSlot, PageType}

abbrev pub fault_at : (number value entry : ℕ) → Fault
fault_at number value entry = record { number = number; value = value; entry = entry }

-- a refusal that carries no entry
abbrev pub fault : (number value : ℕ) → Fault
fault number value = fault_at number value 0

-- the table of refusals
abbrev pub fault_of : Refusal → Fault
fault_of Length = fault 1 0
fault_of ImageShort = fault 2 0
fault_of MapShort = fault 3 0
fault_of MapSpare = fault 4 0
fault_of BlockNumber = fault 5 0
fault_of PieceSize = fault 6 0
fault_of BlockDiffers = fault 7 0
fault_of TableType = fault 8 0
fault_of FileHeader = fault 9 0
fault_of NoPointer = fault 10 0
fault_of (PageLink page) = fault 11 page
fault_of (PageNumber page) = fault 12 page
fault_of (RowIndex page) = fault 13 page
fault_of (RowShort page entry) = fault_at 14 page entry
fault_of (TextFault page entry) = fault_at 15 page entry
fault_of ChainLoop = fault 16 0
fault_of (ListShort needed) = fault 17 needed
fault_of NoRow = fault 18 0
fault_of NoSlot = fault 19 0
fault_of (PageType page) = fault 25 page

-- what the conversion of a refusal gives
abbrev pub FaultOf : Refusal → Fault → Type 0
FaultOf refusal f = f ≡ fault_of refusal

-- the text of a refusal: the word and its number
abbrev pub refusal_text : Refusal → List ℕ
refusal_text refusal = codes "refused " ++ decimal (fault_of refusal).number
