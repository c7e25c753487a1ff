-- Laws of opening: an opened book is sound.
use mathlib.Core.Path.{◌≡◌}
use mathlib.Core.Bool.{true}
use Prim.Native.Nat.{ℕ, ◌≤◌}
use native.Mathlib.Omega.{arith}
use mathlib.Core.List.{[], ◌∷◌}
use lib.ListN.{length-replicate}
use lib.Dec.{leb}
use borrow.Author.Tests.{le-leb, lt-ltb, leb-true}
use Rattle.records.specs.Limits.{final_day}
use Rattle.lists.specs.Tests.{all_of}
use Rattle.lists.specs.Lists.{sum_by, count, every_from}
use Rattle.lists.proofs.TestLaws.{and_left}
use Rattle.lists.proofs.ListLaws.{every-replicate}
use Rattle.rules.specs.Schedule.{Rates, Schedule, rates_fit, schedule_fits}
use Rattle.rules.specs.RateLists.{list_fits, list_in_range, lists_fit}
use Rattle.rules.specs.Settlement.{money, debt, used, paid, owed}
use Rattle.rules.specs.Book.{unused}
use Rattle.rules.specs.Opening.{opening, day_fits, sizes_fit}
use Rattle.rules.specs.Soundness.{sound, account_sound, state_fits, unused_zero, request_fits, topup_fits, decline_fits, successor_fits, returned_fits, returned_of, used_is_paid, no_idle_money, closed_clear}
use Rattle.rules.specs.BusinessDays.{holidays_fit}

unused-sound : (day : ℕ) (s : Schedule) (r : Rates) (accounts room n : ℕ) → account_sound (opening day s r accounts room) n unused ≡ true
unfolding opening account_sound all_of state_fits unused_zero request_fits topup_fits decline_fits successor_fits returned_fits returned_of used_is_paid no_idle_money owed closed_clear count sum_by money debt used paid
unused-sound day s r accounts room n = rw (le-leb 0 day (omega arith))

-- the opening's list is in range, and begins after day 0
opening-lists : (day : ℕ) (r : Rates) → day_fits day ≡ true → rates_fit r ≡ true → lists_fit (record { first_day = day; rates = r } ∷ []) ≡ true
unfolding lists_fit list_fits list_in_range every_from day_fits
opening-lists day r d f =
    let one : 1 ≤ day = leb-true 1 day (and_left (leb 1 day) (leb day final_day) d) in
    rw (d, f, lt-ltb 0 day one)

pub opening-sound : (day : ℕ) (s : Schedule) (r : Rates) (accounts room : ℕ) → day_fits day ≡ true → schedule_fits s ≡ true → rates_fit r ≡ true → sizes_fit accounts room ≡ true
    → sound (opening day s r accounts room) ≡ true
unfolding opening sound all_of every_from holidays_fit
opening-sound day s r accounts room d f g n =
    rw (
      d,
      f,
      opening-lists day r d g,
      length-replicate accounts unused,
      n,
      le-leb 0 room (omega arith),
      every-replicate (account_sound (opening day s r accounts room)) 1 accounts unused (unused-sound day s r accounts room),
    )
