-- What is asked of an event's end, and what it leaves.
use Rattle.std.specs.Prelude.{Bool, ℕ, ◌≡◌, false, ◌+◌, ◌≤◌, ◌<◌, List, ℤ}
use Rattle.records.specs.Codes.{event_topup_result}
use Rattle.records.specs.Limits.{most_rows}
use Rattle.records.specs.Layout.{day_place, used_place}
use Rattle.records.specs.Encoding.{word, StorableRow, StorableAccount}
use Rattle.lists.specs.Tests.{◌is◌}
use Rattle.rules.specs.Rows.{Row, kind_payment, new_row, with_mark}
use Rattle.rules.specs.Book.{Account, Instruction, row, put_row, put_account}
use Rattle.rules.specs.Refusals.{whole_book, change_of, answer_number}
use Rattle.rules.specs.Posting.{removes_topup}
use Rattle.rules.specs.Tables.{Tables, book_of}
use Rattle.settlement.specs.Settling.{Journal, Begun, Settled}
use Rattle.posting.specs.Posts.{RowRoom, RowAdded}
use Rattle.event_lookups.specs.declared.Lookup.{Lookup}

-- the row r can be added, and then its account settled from what was looked up on
pub record AddSettles (h j : List ℤ) (r : Row) (k : Lookup) : Type 0 where
  pub few : word h used_place ≤ most_rows
  pub room : RowRoom h j
  pub storable : StorableRow r
  pub settles : (h' j' : List ℤ) → RowAdded h h' j j' r
      → Journal j' (word h used_place + 1) × Begun j' (word h used_place + 1) r.account k.source k.debit

-- r is added, and then its account settled
pub record AddedSettled (h h' j j' : List ℤ) (r : Row) : Type 0 where
  pub between : List ℤ
  pub added : RowAdded h h' j between r
  pub settled : Settled between j' (word h used_place + 1) r.account

-- a payment of today
abbrev pub payment_today : List ℤ → ℕ → ℕ → ℕ → Row
payment_today h account amount mark = with_mark mark (new_row kind_payment account (word h day_place) amount)

-- k, but that the sources are looked for from the next row on
abbrev pub sources_from_next : List ℤ → Lookup → Lookup
sources_from_next h k = record { duplicate = k.duplicate; due = k.due; source = word h used_place; debit = k.debit }

-- the accepted event e only makes its row r, in which settlement reads what it read before
pub record Puts (t : Tables) (e : Instruction) (r : Row) : Type 0 where
  pub accepted : 0 ≡ answer_number (book_of t) e
  pub stands : 0 < (row (book_of t) e.a).kind
  pub change : change_of e.kind (book_of t) e ≡ put_row e.a r (book_of t)
  pub names-account : whole_book e ≡ false
  pub keeps-topup : e.kind is event_topup_result ≡ false
  pub storable : StorableRow r
  pub kind : r.kind ≡ (row (book_of t) e.a).kind
  pub account : r.account ≡ (row (book_of t) e.a).account
  pub amount : r.amount ≡ (row (book_of t) e.a).amount
  pub settled : r.settled ≡ (row (book_of t) e.a).settled

-- the accepted event e only makes x of the account that it names, and `removed` tells whether that has lost its top-up
pub record PutsAccount (t : Tables) (e : Instruction) (x : Account) (removed : Bool) : Type 0 where
  pub accepted : 0 ≡ answer_number (book_of t) e
  pub change : change_of e.kind (book_of t) e ≡ put_account e.account x (book_of t)
  pub names-account : whole_book e ≡ false
  pub removes : removes_topup (book_of t) e ≡ removed
  pub storable : StorableAccount x
