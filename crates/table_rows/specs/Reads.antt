-- A row read word by word.
use Rattle.std.specs.Prelude.{ℕ, ◌+◌, List, ℤ, pos, get_or}
use Rattle.records.specs.Layout.{kind_place, account_place, row_day_place, amount_place, settled_place, mark_place, due_place, dispute_place, hold_place, reference_place}
use Rattle.rules.specs.Rows.{Row}

-- r's words are read by R from place p on, in the layout's order
pub record RowBy (R : ℤ → ℕ → Type 0) (t : List ℤ) (p : ℕ) (r : Row) : Type 0 where
  pub kind : R (get_or t (p + kind_place) (pos 0)) r.kind
  pub account : R (get_or t (p + account_place) (pos 0)) r.account
  pub day : R (get_or t (p + row_day_place) (pos 0)) r.day
  pub amount : R (get_or t (p + amount_place) (pos 0)) r.amount
  pub settled : R (get_or t (p + settled_place) (pos 0)) r.settled
  pub mark : R (get_or t (p + mark_place) (pos 0)) r.mark
  pub due : R (get_or t (p + due_place) (pos 0)) r.due
  pub dispute : R (get_or t (p + dispute_place) (pos 0)) r.dispute
  pub hold : R (get_or t (p + hold_place) (pos 0)) r.hold
  pub reference : R (get_or t (p + reference_place) (pos 0)) r.reference
