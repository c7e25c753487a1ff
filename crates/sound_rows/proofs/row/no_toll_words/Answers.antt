-- `no_toll_words` meets its contract: it is the clause on a row that is no toll.
use Rattle.rules.specs.Soundness.{toll_words_fit}
use borrow.Author.Tests.{ne_eqb}
use native.Mathlib.Omega.{arith}
use Rattle.sound_rows.proofs.row.no_toll_words.Goals as goal

pub returns : goal.returns
unfolding toll_words_fit
returns c =
    let r = c.args.r in
    simp (ne_eqb r.kind 1 (λ e. omega arith))
