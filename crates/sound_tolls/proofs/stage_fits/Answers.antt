-- `stage_fits` meets its contract: it is the clause on a toll.
use Rattle.rules.specs.Soundness.{mark_fits}
use borrow.Author.Tests.{eq-eqb}
use native.Mathlib.Omega.{arith}
use Rattle.sound_tolls.proofs.stage_fits.Goals as goal

pub returns : goal.returns
unfolding mark_fits
returns c =
    let s = c in
    let r = s.args.r in
    simp (eq-eqb r.kind 1 (omega arith))
