-- The replay's entries (document 01, "What demand 3 counts"): their tests, their sums, and settlement among them.
use Rattle.std.specs.Prelude.{Bool, false, not, cond, ◌&&◌, ◌||◌, ℕ, zero, suc, ◌+◌, ◌-◌, min, List, [], ◌∷◌, get_or, ltb, ℤ, pos, ◌+ℤ◌, ◌-ℤ◌}
pub use Rattle.records.specs.Codes.{kind_toll, kind_fee, kind_reversal, kind_payment, kind_credit, kind_refund}
use Rattle.lists.specs.Tests.{◌is◌}
use Rattle.lists.specs.Lists.{sum_by}

-- "entries numbered in order of posting: kind, account, day, amount, part covered (of money: used); per toll also hold, ticks held,
-- open days; per stage fee its toll"
pub record Entry : Type 0 where
  pub kind : ℕ
  pub account : ℕ
  pub day : ℕ
  pub amount : ℕ
  pub covered : ℕ
  pub hold : Bool
  pub ticks : ℕ
  pub open-days : ℕ
  pub toll : ℕ

-- a new entry: kind, account, day and amount; nothing of it is covered
abbrev pub new_entry : ℕ → ℕ → ℕ → ℕ → Entry
new_entry k a d n = record { kind = k; account = a; day = d; amount = n; covered = 0; hold = false; ticks = 0; open-days = 0; toll = 0 }

abbrev pub with_covered : ℕ → Entry → Entry
with_covered v x = record {
  kind = x.kind;
  account = x.account;
  day = x.day;
  amount = x.amount;
  covered = v;
  hold = x.hold;
  ticks = x.ticks;
  open-days = x.open-days;
  toll = x.toll;
}

abbrev pub with_hold : Bool → Entry → Entry
with_hold v x = record {
  kind = x.kind;
  account = x.account;
  day = x.day;
  amount = x.amount;
  covered = x.covered;
  hold = v;
  ticks = x.ticks;
  open-days = x.open-days;
  toll = x.toll;
}

abbrev pub with_ticks : ℕ → Entry → Entry
with_ticks v x = record {
  kind = x.kind;
  account = x.account;
  day = x.day;
  amount = x.amount;
  covered = x.covered;
  hold = x.hold;
  ticks = v;
  open-days = x.open-days;
  toll = x.toll;
}

abbrev pub with_open_days : ℕ → Entry → Entry
with_open_days v x = record {
  kind = x.kind;
  account = x.account;
  day = x.day;
  amount = x.amount;
  covered = x.covered;
  hold = x.hold;
  ticks = x.ticks;
  open-days = v;
  toll = x.toll;
}

abbrev pub with_toll : ℕ → Entry → Entry
with_toll v x = record {
  kind = x.kind;
  account = x.account;
  day = x.day;
  amount = x.amount;
  covered = x.covered;
  hold = x.hold;
  ticks = x.ticks;
  open-days = x.open-days;
  toll = v;
}

-- "A row word means the entry of that number": entry n, counted from 1; an empty one where there is none
abbrev pub no_entry : Entry
no_entry = new_entry 0 0 0 0

-- entry n, counted from 1
abbrev pub entry_no : List Entry → ℕ → Entry
entry_no xs n = get_or (no_entry ∷ xs) n no_entry

-- ---- tests

abbrev pub EntryTest : Type 0
EntryTest = Entry → Bool

-- payments and credits
abbrev pub is_money : EntryTest
is_money x = x.kind is kind_payment || x.kind is kind_credit

-- tolls, fees, reversals and refunds
abbrev pub is_debt : EntryTest
is_debt x = x.kind is kind_toll || x.kind is kind_fee || x.kind is kind_reversal || x.kind is kind_refund

-- a toll
abbrev pub is_toll : EntryTest
is_toll x = x.kind is kind_toll

-- what is not yet covered; of money, what is unused
abbrev pub uncovered : Entry → ℕ
uncovered x = x.amount - x.covered

-- "covered whole"
abbrev pub covered_whole : EntryTest
covered_whole x = not (ltb x.covered x.amount)

-- the entry, covered whole
abbrev pub cover_whole : Entry → Entry
cover_whole x = with_covered x.amount x

-- a fee of toll n
unfoldable pub fee_of : ℕ → EntryTest
fee_of n x = x.kind is kind_fee && x.toll is n

-- "5 holds the toll and its fees": a fee is held while its toll is
unfoldable pub on_hold : List Entry → EntryTest
on_hold xs x = x.hold || x.kind is kind_fee && (entry_no xs x.toll).hold

-- ---- "Each sum adds the amounts of the account's entries of its kind"

unfoldable pub sum_of : ℕ → ℕ → List Entry → ℕ
sum_of kind a xs = sum_by (λ x. cond (x.kind is kind && x.account is a) x.amount 0) xs

abbrev pub payments : ℕ → List Entry → ℕ
payments a xs = sum_of kind_payment a xs

abbrev pub credits : ℕ → List Entry → ℕ
credits a xs = sum_of kind_credit a xs

abbrev pub tolls : ℕ → List Entry → ℕ
tolls a xs = sum_of kind_toll a xs

abbrev pub fees : ℕ → List Entry → ℕ
fees a xs = sum_of kind_fee a xs

abbrev pub reversals : ℕ → List Entry → ℕ
reversals a xs = sum_of kind_reversal a xs

abbrev pub refunds : ℕ → List Entry → ℕ
refunds a xs = sum_of kind_refund a xs

-- demand 3's formula: payments + credits - tolls - fees - reversals - refunds
unfoldable pub balance_of : ℕ → List Entry → ℤ
balance_of a xs =
    pos (payments a xs) +ℤ pos (credits a xs) -ℤ pos (tolls a xs) -ℤ pos (fees a xs) -ℤ pos (reversals a xs) -ℤ pos (refunds a xs)

-- its two sides: the balance is at least 0 where the first is at least the second, and is their difference
unfoldable pub money_in : ℕ → List Entry → ℕ
money_in a xs = payments a xs + credits a xs

-- what is subtracted: tolls, fees, reversals, refunds
unfoldable pub money_out : ℕ → List Entry → ℕ
money_out a xs = tolls a xs + fees a xs + reversals a xs + refunds a xs

-- ---- "settlement among the entries"

-- the unused part of an account's money
unfoldable pub unused_of : ℕ → Entry → ℕ
unused_of a x = cond (x.account is a && is_money x) (uncovered x) 0

-- what a debt wants that is "undisputed when not held"
unfoldable pub wanted_by : List Entry → ℕ → Entry → ℕ
wanted_by xs a x = cond (x.account is a && (is_debt x && not (on_hold xs x))) (uncovered x) 0

-- n spread over the entries in order, each covered by what it can take
unfoldable pub cover : (Entry → ℕ) → ℕ → List Entry → List Entry
cover take n [] = []
cover take n (x ∷ xs) = with_covered (x.covered + min (take x) n) x ∷ cover take (n - take x) xs

-- what a toll wants: the first rank of debts (document 02, No. 5)
unfoldable pub wanted_by_toll : List Entry → ℕ → Entry → ℕ
wanted_by_toll xs a x = cond (is_toll x) (wanted_by xs a x) 0

-- what a fee or a reversal wants: the second rank; a refund, covered whole, wants nothing
unfoldable pub wanted_by_rest : List Entry → ℕ → Entry → ℕ
wanted_by_rest xs a x = cond (is_toll x) 0 (wanted_by xs a x)

-- the lesser of an account's unused money and what a rank of its debts wants, spread over each side
unfoldable pub cover_rank : (Entry → ℕ) → ℕ → List Entry → List Entry
cover_rank want a xs =
    let n : ℕ = min (sum_by (unused_of a) xs) (sum_by want xs) in
    cover want n (cover (unused_of a) n xs)

-- settlement of one account: "the account's unheld tolls in row order, then unheld fees and reversals in row order" (document 02, No. 5)
unfoldable pub settle_entries : ℕ → List Entry → List Entry
settle_entries a xs = cover_rank (wanted_by_rest xs a) a (cover_rank (wanted_by_toll xs a) a xs)

-- settlement of accounts 1 to n
unfoldable pub settle_all_entries : ℕ → List Entry → List Entry
settle_all_entries zero xs = xs
settle_all_entries (suc n) xs = settle_entries (suc n) (settle_all_entries n xs)
