-- `hold_fits` meets its contract: each way through the tests decides the clause, and no sum wraps once the hold starts by today.
use Rattle.sound_tolls.proofs.RowLaws.{held_fits}
use mathlib.Core.Bool.{and-false}
use Rattle.rules.specs.Soundness.{hold_fits}
use borrow.Author.Tests.{eq-eqb, lt-leb, ne_eqb}
use native.Mathlib.Omega.{arith}
use Rattle.sound_tolls.proofs.Term.hold_fits.Goals as goal

pub returns-then-r-ne-DISPUTE_HELD : goal.returns-then-r-ne-DISPUTE_HELD
unfolding hold_fits
returns-then-r-ne-DISPUTE_HELD c =
    let s = c in
    let r = s.args.r in
    simp (eq-eqb r.kind 1 (omega arith), ne_eqb r.dispute 1 (λ e. omega arith))

pub returns-then-r-self : goal.returns-then-r-self
unfolding hold_fits
returns-then-r-self c =
    let s = c in
    let r = s.args.r in
    simp (eq-eqb r.kind 1 (omega arith), eq-eqb r.dispute 1 (omega arith), lt-leb r.hold s.args.self.today (omega arith), and-false)

pub returns : goal.returns
returns c =
    let r = c.args.r in
    held_fits c.args.self.today c.args.self.stage r c.implies-after.result c.requires (omega arith) (omega arith) c.implies-after.ensures
