-- `put_settled` meets its contract: one word of the row is put, and no other row has it.
use Rattle.tables.proofs.ChangeLaws.{settled-changed}
use Rattle.table_rows.proofs.put_settled.Goals as goal

pub returns : goal.returns
returns c =
    let s = c in
    rw c.put.ensures (settled-changed s.args.journal.now s.args.i s.args.v s.requires.0)
