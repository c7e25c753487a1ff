-- An account read word by word.
use Rattle.std.specs.Prelude.{ℕ, ◌+◌, List, ℤ, pos, get_or}
use Rattle.records.specs.Layout.{state_place, request_place, returned_place, threshold_place, topup_place, declines_place, declined_place, reserve_place, successor_place}
use Rattle.rules.specs.Book.{Account}

-- x's words are read by R from place p on, in the layout's order
pub record AccountBy (R : ℤ → ℕ → Type 0) (t : List ℤ) (p : ℕ) (x : Account) : Type 0 where
  pub state : R (get_or t (p + state_place) (pos 0)) x.state
  pub request : R (get_or t (p + request_place) (pos 0)) x.request
  pub returned : R (get_or t (p + returned_place) (pos 0)) x.returned
  pub threshold : R (get_or t (p + threshold_place) (pos 0)) x.threshold
  pub topup : R (get_or t (p + topup_place) (pos 0)) x.topup
  pub declines : R (get_or t (p + declines_place) (pos 0)) x.declines
  pub declined : R (get_or t (p + declined_place) (pos 0)) x.declined
  pub reserve : R (get_or t (p + reserve_place) (pos 0)) x.reserve
  pub successor : R (get_or t (p + successor_place) (pos 0)) x.successor
