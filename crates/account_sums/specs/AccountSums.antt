-- The six sums of each account in one array, those of account n at place n.
use Rattle.std.specs.Prelude.{ℕ, ◌+◌, ◌*◌, ◌≤◌, ◌<◌, ◌≡◌, Bool, cond, not, List, ℤ, length, get_or, set}
use Rattle.lists.specs.Lists.{sum_by}
use Rattle.records.specs.Encoding.{rows_of}
use Rattle.records.specs.Limits.{most_rows, most_accounts, highest_refund, slot_count}
use Rattle.rules.specs.Rows.{Row, remaining}
use Rattle.account_sums.specs.declared.Sums.{Sums}
use Rattle.account_sums.specs.Tallies.{return_of, drawn_of, money_of, paid_of, debt_of, owed_of}

-- those of an account without rows
abbrev pub no_sums : Sums
no_sums = record { returned = 0; drawn = 0; money = 0; paid = 0; debt = 0; owed = 0 }

-- those of account n over xs, where `all` says which fees are held
unfoldable pub sums_over : List Row → List Row → ℕ → Sums
sums_over all xs n = record {
  returned = sum_by (return_of n) xs;
  drawn = sum_by (drawn_of n) xs;
  money = sum_by (money_of n) xs;
  paid = sum_by (paid_of n) xs;
  debt = sum_by (debt_of all n) xs;
  owed = sum_by (owed_of n) xs;
}

-- none is above what i rows can come to
pub record Low (s : Sums) (i : ℕ) : Type 0 where
  pub returned : s.returned ≤ i * highest_refund
  pub drawn : s.drawn ≤ i * highest_refund
  pub money : s.money ≤ i * highest_refund
  pub paid : s.paid ≤ i * highest_refund
  pub debt : s.debt ≤ i * highest_refund
  pub owed : s.owed ≤ i * highest_refund

abbrev pub AllLow : List Sums → ℕ → Type 0
AllLow sums i = (n : ℕ) → Low (get_or sums n no_sums) i

-- an array of each account's over the first i rows
pub record Tallies (t : List ℤ) (used : ℕ) (sums : List Sums) (i : ℕ) : Type 0 where
  pub sized : length sums ≡ slot_count
  pub low : AllLow sums i
  pub each : (n : ℕ) → n < slot_count → get_or sums n no_sums ≡ sums_over (rows_of t used) (rows_of t i) n

-- ---- a row is added

-- a row whose words are within their limits
pub record Small (r : Row) : Type 0 where
  pub amount : r.amount ≤ highest_refund
  pub settled : r.settled ≤ r.amount

-- a source, returned or not, and a debit, held or not, in the sums of its account
abbrev pub sourced : Sums → Row → Bool → Sums
sourced s r returned = record s {
  returned = s.returned + cond returned 1 0;
  drawn = s.drawn + r.settled;
  money = s.money + remaining r;
}

abbrev pub debited : Sums → Row → Bool → Sums
debited s r held = record s {
  paid = s.paid + r.settled;
  debt = s.debt + cond (not held) (remaining r) 0;
  owed = s.owed + remaining r;
}

-- the same in the array
abbrev pub with_source : List Sums → Row → Bool → List Sums
with_source s r returned = set s r.account (sourced (get_or s r.account no_sums) r returned)

abbrev pub with_debit : List Sums → Row → Bool → List Sums
with_debit s r held = set s r.account (debited (get_or s r.account no_sums) r held)

-- a row whose account has a place, and whose amount leaves the sums in range
pub record Addable (sums : List Sums) (r : Row) : Type 0 where
  pub slot : r.account ≤ most_accounts
  pub small : Small r
  pub low : AllLow sums most_rows
