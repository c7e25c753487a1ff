-- `running` meets its contract: the first test that fails decides.
use borrow.Author.Tests.{eq-eqb, ne_eqb, le-ltb, lt-ltb}
use native.Mathlib.Omega.{arith}
use Rattle.sound_tolls.proofs.running.Goals as goal

pub returns-then-r : goal.returns-then-r
returns-then-r c =
    let r = c.args.r in
    simp (le-ltb r.settled r.amount (omega arith))

pub returns-then-r-eq-DISPUTE_HELD : goal.returns-then-r-eq-DISPUTE_HELD
returns-then-r-eq-DISPUTE_HELD c =
    let r = c.args.r in
    simp (lt-ltb r.settled r.amount (omega arith), eq-eqb r.kind 1 (omega arith), eq-eqb r.dispute 1 (omega arith))

pub returns : goal.returns
returns c =
    let r = c.args.r in
    simp (lt-ltb r.settled r.amount (omega arith), eq-eqb r.kind 1 (omega arith), ne_eqb r.dispute 1 (λ e. omega arith))
