-- `settled_fits` meets its contract: each way through the tests decides the clause.
use Rattle.rules.specs.Soundness.{settled_fits}
use borrow.Author.Tests.{eq-eqb, le-leb, lt-leb, ne_eqb}
use native.Mathlib.Omega.{arith}
use Rattle.sound_rows.proofs.row.settled_fits.Goals as goal

pub returns-then-r : goal.returns-then-r
unfolding settled_fits
returns-then-r c =
    let r = c.args.r in
    simp (lt-leb r.settled r.amount (omega arith))

pub returns-then-r-ne-KIND_REFUND : goal.returns-then-r-ne-KIND_REFUND
unfolding settled_fits
returns-then-r-ne-KIND_REFUND c =
    let r = c.args.r in
    simp (le-leb r.settled r.amount (omega arith), ne_eqb r.kind 6 (λ e. omega arith))

pub returns : goal.returns
unfolding settled_fits
returns c =
    let r = c.args.r in
    simp (le-leb r.settled r.amount (omega arith), eq-eqb r.kind 6 (omega arith))
