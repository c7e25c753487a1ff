-- A word whose bits are read as they are: the number, or past every limit where the word is negative.
use Rattle.std.specs.Prelude.{ℕ, ◌^◌, ◌<◌, ◌≡◌, List, get_or}
use Rattle.records.specs.Encoding.{account_fields}
use Rattle.rules.specs.Rows.{Row}
use Rattle.rules.specs.Book.{Account}

-- the same number, or both past every limit
pub record Alike (a b : ℕ) : Type 0 where
  pub first : a < 2 ^ 63 → a ≡ b
  pub second : b < 2 ^ 63 → a ≡ b

-- word by word
pub record AlikeRow (a b : Row) : Type 0 where
  pub kind : Alike a.kind b.kind
  pub account : Alike a.account b.account
  pub day : Alike a.day b.day
  pub amount : Alike a.amount b.amount
  pub settled : Alike a.settled b.settled
  pub mark : Alike a.mark b.mark
  pub due : Alike a.due b.due
  pub dispute : Alike a.dispute b.dispute
  pub hold : Alike a.hold b.hold
  pub reference : Alike a.reference b.reference

-- lists of words, each word found by its place
pub record AlikeWords (xs ys : List ℕ) : Type 0 where
  pub each : (k : ℕ) → Alike (get_or xs k 0) (get_or ys k 0)

-- every word of an account
abbrev pub AlikeAccount : Account → Account → Type 0
AlikeAccount a b = AlikeWords (account_fields a) (account_fields b)
