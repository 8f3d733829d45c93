-- Rules 13.3 and 13.4: the code and the values of each answer that is not refused.
use Rattle.std.specs.Prelude.{List, [], ◌∷◌, ℕ}
use Rattle.std.proofs.Math.Option.{Option, none, some}
use Rattle.text.specs.declared.Encoding.{Encoding}
use Rattle.text.specs.declared.Encoding.TheVariants.{Ascii, Utf16}
use Rattle.intake.specs.Open.{OpenedFile, opened}
use Rattle.intake.specs.Deliver.{Taken, taken, new, same}
use Rattle.chain.specs.Walk.{Progress, full, waiting}
use Rattle.chain.specs.Found as row
use Rattle.export.specs.Record.{RecordOn}
use Rattle.export.specs.Text.{TextPlace}
use Rattle.export.specs.declared.FileLayout.{FileLayout}
use Rattle.export.specs.declared.TableBounds.{TableBounds}
use Rattle.c_reply.specs.Code as code
use Rattle.c_reply.specs.Reply.{Reply, reply}

abbrev pub open_reply : OpenedFile → Reply
open_reply (opened len blocks) = reply code.done (blocks ∷ [])

abbrev pub deliver_reply : Taken → Reply
deliver_reply (taken new count) = reply code.done (count ∷ [])
deliver_reply (taken same count) = reply code.same (count ∷ [])

-- the held count
abbrev pub packet_reply : ℕ → Reply
packet_reply count = reply code.done (count ∷ [])

abbrev pub wait_reply : (page rows pages : ℕ) → Reply
wait_reply page rows pages = reply code.waiting (rows ∷ pages ∷ page ∷ [])

abbrev pub walk_reply : Progress ℕ → Reply
walk_reply (full rows pages) = reply code.done (rows ∷ pages ∷ [])
walk_reply (waiting page rows pages) = wait_reply page rows pages

-- what was found gives the values
abbrev pub found_reply : {A : Type 0} (values : A → List ℕ) (answer : row.Found A) → Reply
found_reply values (row.found x) = reply code.done (values x)
found_reply values (row.waiting page rows pages) = wait_reply page rows pages

-- page and index entry stand first in the record of every table
abbrev pub record_values : RecordOn → List ℕ
record_values r = r.page ∷ r.entry ∷ r.content.numbers

abbrev pub record_reply : row.Found RecordOn → Reply
record_reply answer = found_reply record_values answer

abbrev pub encoding_number : Encoding → ℕ
encoding_number Ascii = 0
encoding_number Utf16 = 1

abbrev pub text_values : TextPlace → List ℕ
text_values text = text.place ∷ text.len ∷ encoding_number text.encoding ∷ []

abbrev pub text_reply : row.Found TextPlace → Reply
text_reply answer = found_reply text_values answer

abbrev pub missing_reply : Option ℕ → Reply
missing_reply (some block) = reply code.done (block ∷ [])
missing_reply none = reply code.none []

abbrev pub layout_values : FileLayout → List ℕ
layout_values l = l.len_page ∷ l.page_count ∷ []

abbrev pub layout_reply : row.Found FileLayout → Reply
layout_reply answer = found_reply layout_values answer

abbrev pub bounds_values : TableBounds → List ℕ
bounds_values b = b.first_page ∷ b.last_page ∷ []

abbrev pub bounds_reply : row.Found TableBounds → Reply
bounds_reply answer = found_reply bounds_values answer
