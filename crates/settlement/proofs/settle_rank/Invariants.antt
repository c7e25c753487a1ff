use mathlib.Core.Path.{◌≡◌}
use mathlib.Core.List.{List}
use lib.IntN.{ℤ}
use Rattle.records.specs.Encoding.{row_at}
use Rattle.lists.specs.Lists.{only}
use Rattle.rules.specs.Rows.{remaining, source_of}
use Rattle.settlement.proofs.WalkLaws.{Walking}
use Rattle.settlement.proofs.settle_rank.Given as goal

abbrev pub invariant-loop-x : goal.invariant-loop-x
invariant-loop-x l =
    ((old : List ℤ) → Walking l.rank l.account l.used old l.initial.journal l.i l.initial.j → Walking l.rank l.account l.used old l.journal l.i l.j)
    × (l.x ≡ only (source_of l.account) remaining (row_at l.journal l.i))
    × (l.left ≡ l.used)

abbrev pub decreases-loop-x : goal.decreases-loop-x
decreases-loop-x l = l.x

abbrev pub invariant-sources : goal.invariant-sources
invariant-sources l = Walking l.rank l.account l.used l.initial.journal l.journal l.i l.j × (l.left ≡ l.used)
