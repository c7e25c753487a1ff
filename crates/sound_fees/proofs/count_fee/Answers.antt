-- `count_fee` meets its contract: one more is counted, and at least one is fewer than the stage just where it is at most one less.
use Rattle.sound_fees.proofs.FeeLaws.{few-within}
use Prim.Native.Nat.{◌+◌}
use lib.ListN.{get_or}
use mathlib.Core.Path.{refl, ◌∙◌}
use native.Mathlib.Omega.{arith}
use Rattle.sound_fees.proofs.count_fee.Goals as goal

pub returns : goal.returns
returns c =
    let s = c in
    record { counted = refl; few = c.implies.ensures ∙ rw c.from.ensures (few-within (get_or s.args.counts.now s.args.n 0 + 1) s.args.named (λ z. omega arith)) }
