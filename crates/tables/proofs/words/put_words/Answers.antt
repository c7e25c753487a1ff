-- `put_words` meets its contract: a store a turn.
use native.Mathlib.Omega.{arith}
use mathlib.Core.Path.{sym, ◌∙◌}
use Rattle.tables.proofs.PutLaws.{put_all-more, put_all-none}
use Rattle.tables.proofs.words.put_words.Goals as goal

pub loop-i-preserved : goal.loop-i-preserved
loop-i-preserved g c =
    rw c.put.ensures (sym (put_all-more c.loop-i.t c.args.p c.loop-i.i c.args.words (omega (arith, c.loop-i-test.true))) ∙ c.loop-i.invariant)

pub returns : goal.returns
returns g c = sym (put_all-none c.loop-i.t c.args.p c.loop-i.i c.args.words (omega (arith, c.loop-i-test.false))) ∙ c.loop-i.invariant
