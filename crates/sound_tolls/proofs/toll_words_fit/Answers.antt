-- `toll_words_fit` meets its contract: it is the clause on a toll.
use Rattle.rules.specs.Soundness.{toll_words_fit}
use borrow.Author.Tests.{eq-eqb, le-leb, lt-leb}
use native.Mathlib.Omega.{arith}
use Rattle.sound_tolls.proofs.toll_words_fit.Goals as goal

pub returns-then-r-gt-DISPUTE_UPHELD : goal.returns-then-r-gt-DISPUTE_UPHELD
unfolding toll_words_fit
returns-then-r-gt-DISPUTE_UPHELD c =
    let s = c in
    let r = s.args.r in
    simp (eq-eqb r.kind 1 (omega arith), lt-leb r.dispute 3 (omega arith))

pub returns : goal.returns
unfolding toll_words_fit
returns c =
    let s = c in
    let r = s.args.r in
    simp (eq-eqb r.kind 1 (omega arith), le-leb r.dispute 3 (omega arith)) c.between.ensures
