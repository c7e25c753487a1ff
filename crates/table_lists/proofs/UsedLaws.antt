-- How many rate lists of a header are used, counted one after the other.
use mathlib.Core.Path.{◌≡◌, sym}
use mathlib.Core.Bool.{cond}
use Prim.Native.Nat.{ℕ, ◌+◌, ◌≤◌}
use native.Mathlib.Omega.{arith}
use mathlib.Core.List.{List}
use lib.IntN.{ℤ}
use lib.Dec.{ltb}
use mir.Val.{bool_byte}
use Rattle.lists.specs.Lists.{count, tabulate}
use Rattle.lists.proofs.TestLaws.{byte-one}
use Rattle.lists.proofs.ListLaws.{length-tabulate}
use Rattle.lists.proofs.SumLaws.{sum_by-more, count-le}
use Rattle.records.specs.Layout.{later_lists}
use Rattle.rules.specs.RateLists.{RateList}
use Rattle.rules.specs.Tables.{later_list_at, lists_used}

-- of the first n lists after the first, those that have a first day
unfoldable pub used_of : List ℤ → ℕ → ℕ
used_of h n = count (λ l. ltb 0 l.first_day) (tabulate (later_list_at h) n)

pub used-more : (h : List ℤ) (i n day : ℕ) → n ≡ used_of h i → day ≡ (later_list_at h i).first_day → n + bool_byte (ltb 0 day) ≡ used_of h (i + 1)
unfolding used_of count
used-more h i n day e d =
    rw (e, byte-one (ltb 0 day), d) (sym (sum_by-more (λ (l : RateList). cond (ltb 0 l.first_day) 1 0) (later_list_at h) i))

pub used-few : (h : List ℤ) → lists_used h ≤ later_lists
unfolding lists_used
used-few h = omega (arith, count-le (λ (l : RateList). ltb 0 l.first_day) (tabulate (later_list_at h) later_lists), length-tabulate (later_list_at h) later_lists)
