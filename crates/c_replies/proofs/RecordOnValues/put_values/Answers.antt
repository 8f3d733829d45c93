-- The values of a record with its row: the numbers stand behind page and entry (proofs/RowValues).
use Rattle.std.specs.Prelude.{refl}
use Rattle.row.specs.Record.{record_of}
use Rattle.c_replies.proofs.RowValues.{values_short, values_long}
use Rattle.c_replies.proofs.RecordOnValues.put_values.Goals as goal

pub returns-then-res-lt2 : goal.returns-then-res-lt2
returns-then-res-lt2 c =
    let a = c.args in
    let numbers = (record_of a.self.«record»).numbers in
    (refl, values_short a.self.page a.self.«entry» numbers a.res.now c.put.ensures.1 c.if-res-lt2.true)

pub returns : goal.returns
returns c =
    let a = c.args in
    let numbers = (record_of a.self.«record»).numbers in
    let put = c.put_values.ensures in
    (put.0, values_long a.self.page a.self.«entry» numbers a.res.now c.put.ensures.1 c.if-res-lt2.false put.1)
