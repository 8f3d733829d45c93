-- Rules 8.12 and 8.17: the fault that refuses a call, and the table that a question is on.
use Rattle.std.proofs.Math.Option.{Option}
use Rattle.std.specs.Prelude.{ℕ}
use Rattle.refusal.specs.declared.Fault.{Fault}
use Rattle.refusal.specs.Answer.{fault_in}
use Rattle.run.specs.Call.{Question, all_rows, one_record, one_text, CallReply, delivered, delivered_packet, rows, row, text}

-- the fault that refuses a call, if one does
abbrev pub fault_in_reply : CallReply → Option Fault
fault_in_reply (delivered a) = fault_in a
fault_in_reply (delivered_packet a results) = fault_in a
fault_in_reply (rows o) = fault_in o.answer
fault_in_reply (row a) = fault_in a
fault_in_reply (text a) = fault_in a

-- the table that a question is on, by its number
abbrev pub table_asked : Question → ℕ
table_asked (all_rows table list) = table
table_asked (one_record table k) = table
table_asked (one_text table k slot) = table
