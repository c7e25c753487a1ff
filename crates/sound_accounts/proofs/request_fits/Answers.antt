-- `request_fits` meets its contract: each way through the tests decides the clause.
use Rattle.rules.specs.Soundness.{request_fits}
use borrow.Author.Tests.{eq-eqb, ne_eqb, le-leb, lt-leb}
use mathlib.Core.Bool.{and-true}
use native.Mathlib.Omega.{arith}
use Rattle.sound_accounts.proofs.request_fits.Goals as goal

pub returns-then-x-eq-STATE_OPEN : goal.returns-then-x-eq-STATE_OPEN
unfolding request_fits
returns-then-x-eq-STATE_OPEN c =
    let x = c.args.x in
    simp (eq-eqb x.state 1 (omega arith), lt-leb 2 x.state (omega arith), and-true)

pub returns-then-x-lt-STATE_PENDING : goal.returns-then-x-lt-STATE_PENDING
unfolding request_fits
returns-then-x-lt-STATE_PENDING c =
    let x = c.args.x in
    simp (ne_eqb x.state 1 (λ e. omega arith), lt-leb 2 x.state (omega arith))

pub returns : goal.returns
unfolding request_fits
returns c =
    let x = c.args.x in
    simp (ne_eqb x.state 1 (λ e. omega arith), le-leb 2 x.state (omega arith)) c.between.ensures
