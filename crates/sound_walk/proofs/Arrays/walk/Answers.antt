-- `walk` meets its contract: at the end the rows passed are the used ones.
use native.Mathlib.Omega.{arith}
use mathlib.Core.Bool.{true≢false}
use mathlib.Core.Path.{◌≡◌}
use Rattle.sound_walk.proofs.Arrays.walk.Goals as goal

pub returns-clause-walks : goal.returns-clause-walks
returns-clause-walks c =
    let e : c.loop-i.i ≡ c.args.f.now.rows.used = omega arith in
    record { good = λ q. rw e at c.loop-i.invariant.walked; bad = λ q. absurd (true≢false q) }
