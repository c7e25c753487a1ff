-- The header's words one by one: schedule and rate lists stay where their words do.
use mathlib.Core.Path.{◌≡◌, ap₂, ap}
use Prim.Native.Nat.{ℕ, ◌+◌, ◌*◌, ◌≤◌}
use native.Mathlib.Omega.{arith}
use mathlib.Core.List.{List, ◌∷◌}
use lib.IntN.{ℤ}
use Rattle.lists.specs.Lists.{count}
use Rattle.lists.proofs.ListLaws.{tabulate-same}
use Rattle.records.specs.Layout.{header_schedule, header_lists, header_rates, header_first_day, later_lists, list_width}
use Rattle.rules.specs.RateLists.{RateList}
use Rattle.rules.specs.Tables.{schedule_from, rates_from, first_list_in, list_from, later_list_at, lists_used, lists_in}
use Rattle.posting.specs.Written.{Fixed}

module _ (h h' : List ℤ) (e : Fixed h h') where
  pub schedule-same : schedule_from h' header_schedule ≡ schedule_from h header_schedule
  unfolding schedule_from
  schedule-same = rw (e 2 (omega arith), e 3 (omega arith), e 4 (omega arith), e 5 (omega arith))

  rates-same : (p : ℕ) → header_schedule ≤ p → rates_from h' p ≡ rates_from h p
  unfolding rates_from
  rates-same p l =
      rw (e (p + 0) (omega arith), e (p + 1) (omega arith), e (p + 2) (omega arith), e (p + 3) (omega arith), e (p + 4) (omega arith), e (p + 5) (omega arith))

  first-same : first_list_in h' ≡ first_list_in h
  unfolding first_list_in
  first-same = rw (e header_first_day (omega arith), rates-same header_rates (omega arith))

  later_same : (i : ℕ) → later_list_at h' i ≡ later_list_at h i
  unfolding list_from
  later_same i = rw (e (header_lists + i * list_width + 0) (omega arith), rates-same (header_lists + i * list_width + 1) (omega arith))

  pub used-lists-same : lists_used h' ≡ lists_used h
  unfolding lists_used
  used-lists-same = ap (count _) (tabulate-same (later_list_at h') (later_list_at h) later_lists (λ k q. later_same k))

  pub lists-same : lists_in h' ≡ lists_in h
  unfolding lists_in
  lists-same =
      rw used-lists-same
      (ap₂ {C = List RateList} ◌∷◌ first-same (tabulate-same (later_list_at h') (later_list_at h) (lists_used h) (λ k q. later_same k)))
