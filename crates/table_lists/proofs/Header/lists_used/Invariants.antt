use Rattle.table_lists.proofs.UsedLaws.{used_of}
use mathlib.Core.Path.{◌≡◌}
use Prim.Native.Nat.{◌≤◌}
use Rattle.table_lists.proofs.Header.lists_used.Given as goal

abbrev pub invariant-loop-i : goal.invariant-loop-i
invariant-loop-i l = (l.n ≤ l.i) × (l.n ≡ used_of l.self.words.now l.i)
