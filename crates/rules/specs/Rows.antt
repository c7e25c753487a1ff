-- The journal's rows and the tests on a row (document 01, "The book").
use Rattle.std.specs.Prelude.{Bool, not, ◌&&◌, ◌||◌, ℕ, ◌+◌, ◌-◌, List, ◌∷◌, get_or, ltb}
pub use Rattle.records.specs.declared.Row.{Row}
pub use Rattle.records.specs.Codes.{kind_toll, kind_fee, kind_reversal, kind_payment, kind_credit, kind_refund, dispute_held, last_stage}
pub use Rattle.records.specs.Updates.{blank, new_row, with_settled, with_mark, with_due, with_dispute, with_hold_start, with_reference}
use Rattle.lists.specs.Tests.{◌is◌}

-- a test of a row
abbrev pub Test : Type 0
Test = Row → Bool

-- row number n, counted from 1; blank where there is none
abbrev pub row_no : List Row → ℕ → Row
row_no rows n = get_or (blank ∷ rows) n blank

-- ---- amounts

-- of a source, what is unused; of a debit, what is unsettled
abbrev pub remaining : Row → ℕ
remaining r = r.amount - r.settled

-- the row with n more of it settled, and settled whole
abbrev pub settle_more : Row → ℕ → Row
settle_more r n = with_settled (r.settled + n) r

-- the row settled whole
abbrev pub settle_whole : Row → Row
settle_whole r = with_settled r.amount r

-- ---- tests

-- "Kinds 1, 2, 3, 6 are debits, 4 and 5 sources"
abbrev pub debit : Test
debit r = r.kind is kind_toll || r.kind is kind_fee || r.kind is kind_reversal || r.kind is kind_refund

-- "4 and 5 sources"
abbrev pub source : Test
source r = r.kind is kind_payment || r.kind is kind_credit

-- a row of kind 1
abbrev pub toll : Test
toll r = r.kind is kind_toll

-- less than its amount is settled; of a source: unused
abbrev pub unsettled : Test
unsettled r = ltb r.settled r.amount

-- "Dispute, tolls only: .. 1 held"
abbrev pub held_toll : Test
held_toll r = toll r && r.dispute is dispute_held

-- "A fee is held while its toll is held"
unfoldable pub held : List Row → Test
held rows r = held_toll r || r.kind is kind_fee && held_toll (row_no rows r.reference)

-- a fee that names row n
unfoldable pub fee_naming : ℕ → Test
fee_naming n r = r.kind is kind_fee && r.reference is n

-- ---- rows of one account

-- a source of account a
unfoldable pub source_of : ℕ → Test
source_of a r = r.account is a && source r

-- a debit of account a, held or not
unfoldable pub debit_of : ℕ → Test
debit_of a r = r.account is a && debit r

-- a debit that settlement may pay: one that is not held
unfoldable pub payable : List Row → ℕ → Test
payable rows a r = r.account is a && (debit r && not (held rows r))

-- "the account's unheld tolls" (document 02, No. 5)
unfoldable pub payable_toll : List Row → ℕ → Test
payable_toll rows a r = payable rows a r && toll r

-- "unheld fees and reversals" (document 02, No. 5); a refund, settled whole, wants nothing
unfoldable pub payable_rest : List Row → ℕ → Test
payable_rest rows a r = payable rows a r && not (toll r)

-- a held toll of account a, or a fee of one: a debit that settlement leaves alone
unfoldable pub held_debit : List Row → ℕ → Test
held_debit rows a r = r.account is a && held rows r
