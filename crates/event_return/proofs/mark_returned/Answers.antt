-- `mark_returned` meets its contract.
use native.Mathlib.Omega.{arith}
use mathlib.Core.Path.{ap}
use Rattle.rules.specs.Rows.{Row}
use Rattle.event_return.proofs.ReturnLaws.{mark-storable}
use Rattle.event_return.proofs.mark_returned.Goals as goal

pub write_row-requires : goal.write_row-requires
write_row-requires c = (omega (arith, c.requires), mark-storable c.numbered-r.result _ (omega arith) (rw c.numbered-r.ensures c.requires.holds))

pub returns : goal.returns
returns c =
    let e = c.numbered-r.ensures in
    record { marked = rw e at c.write_row.ensures; amount = ap (λ (r : Row). r.amount) e }
