-- `insert` meets its contract: a row that is no toll leaves the trees, and a toll is inserted.
use Rattle.sound_passages.proofs.TreeLaws.{trees-skip}
use mathlib.Core.Bool.{true≢false}
use Rattle.sound_passages.proofs.passages.insert.Goals as goal

pub returns-then-kind_at-ne-KIND_TOLL : goal.returns-then-kind_at-ne-KIND_TOLL
returns-then-kind_at-ne-KIND_TOLL c =
    record { good = λ e. trees-skip _ _ _ _ c.requires.2 (rw c.kind_at.ensures at c.if-kind_at-ne-KIND_TOLL.true); bad = λ e. absurd (true≢false e) }
