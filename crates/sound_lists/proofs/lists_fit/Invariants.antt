use Rattle.sound_lists.proofs.StandingLaws.{rises}
use Rattle.rules.specs.RateLists.{list_no}
use Rattle.rules.specs.Tables.{later_list_at, lists_in}
use mathlib.Core.Bool.{true}
use mathlib.Core.Path.{◌≡◌}
use Prim.Native.Nat.{ℕ, ◌+◌, ◌<◌}
use Rattle.sound_lists.proofs.lists_fit.Given as goal

abbrev pub invariant-loop-i : goal.invariant-loop-i
invariant-loop-i l = (l.before ≡ (list_no (lists_in l.h.words.now) (l.i + 1)).first_day) × ((k : ℕ) → k < l.i → rises l.h.words.now (k + 1) (later_list_at l.h.words.now k) ≡ true)
