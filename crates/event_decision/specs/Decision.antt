-- Event 6: the refusals of its own, out of the table of all, in checking order; and what each verdict writes.
use Rattle.std.specs.Prelude.{◌≡◌, not, cond, ◌&&◌, ℕ, ◌+◌, ◌-◌, ◌≤◌, List, [], ◌∷◌, length, ℤ, ltb}
use Rattle.records.specs.Numbers.{answer_no_row, answer_untimely, answer_full}
use Rattle.records.specs.Codes.{dispute_upheld, code_yes}
use Rattle.records.specs.Layout.{header_width, day_place, used_place}
use Rattle.records.specs.Encoding.{word, rows_of, StorableRow}
use Rattle.lists.specs.Tests.{◌is◌, Cases}
use Rattle.lists.specs.Lists.{sum_by, only}
use Rattle.rules.specs.Rows.{Row, kind_credit, row_no, new_row, with_settled, with_dispute, with_hold_start, with_reference, remaining, settle_whole, toll, held_toll, fee_naming}
use Rattle.rules.specs.Book.{Instruction, Book, row}
use Rattle.rules.specs.Events.{release}
use Rattle.tables.specs.Changes.{RowChanged, RowsMapped}
use Rattle.posting.specs.Posts.{Amounts, RowRoom, RowAdded}

-- no toll row of the account, one that is not held, and no row for the credit: verdict 0 adds none
unfoldable pub decision_refusals : Book → Instruction → Cases
decision_refusals b e =
    (answer_no_row, not (toll (row b e.a) && (row b e.a).account is e.account))
    ∷ (answer_untimely, not (held_toll (row b e.a)))
    ∷ (answer_full, e.b is code_yes && ltb b.room (length b.rows + 1))
    ∷ []

-- ---- a toll and its fees

-- what f gives for row n "plus all its fees"
unfoldable pub toll_and_fees : List Row → ℕ → (Row → ℕ) → ℕ
toll_and_fees rows n f = f (row_no rows n) + sum_by (only (fee_naming n) f) rows

-- a fee of toll n is settled whole
abbrev pub fee_settled : ℕ → Row → Row
fee_settled n r = cond (fee_naming n r) (settle_whole r) r

-- ---- verdict 1

-- "dispute 3": free and settled whole
abbrev pub upheld_toll : Row → Row
upheld_toll r = settle_whole (with_hold_start 0 (with_dispute dispute_upheld r))

-- "a credit of the toll plus all its fees settles what is unsettled of exactly these"
unfoldable pub credit_for : List Row → ℕ → Instruction → Row
credit_for rows today e =
    with_reference e.a (with_settled (toll_and_fees rows e.a remaining)
    (new_row kind_credit e.account today (toll_and_fees rows e.a (λ r. r.amount))))

-- the row that the event names
abbrev pub row_named : List ℤ → List ℤ → Instruction → Row
row_named h j e = row_no (rows_of j (word h used_place)) e.a

-- the toll can be written upheld, and the credit added
pub record Upholdable (h j : List ℤ) (e : Instruction) : Type 0 where
  pub room : RowRoom h j
  pub amounts : Amounts j (word h used_place)
  pub from : 1 ≤ e.a
  pub used : e.a ≤ word h used_place
  pub toll : StorableRow (upheld_toll (row_named h j e))
  pub credit : StorableRow (credit_for (rows_of j (word h used_place)) (word h day_place) e)

-- the toll is written upheld, then its fees are settled, then the credit is added
pub record UpheldRows (h h' j j' : List ℤ) (e : Instruction) : Type 0 where
  pub with-toll : List ℤ
  pub with-fees : List ℤ
  pub toll : RowChanged j with-toll (e.a - 1) (upheld_toll (row_named h j e))
  pub fees : RowsMapped (fee_settled e.a) with-toll with-fees (word h used_place)
  pub credit : RowAdded h h' with-fees j' (credit_for (rows_of j (word h used_place)) (word h day_place) e)

-- ---- verdict 0

-- the row that the event names, free again
abbrev pub freed_row : List ℤ → List ℤ → Instruction → Row
freed_row h j e = release (word h day_place) (row_named h j e)

-- the toll can be written free
pub record Releasable (h j : List ℤ) (e : Instruction) : Type 0 where
  pub header : length h ≡ header_width
  pub amounts : Amounts j (word h used_place)
  pub from : 1 ≤ e.a
  pub used : e.a ≤ word h used_place
  pub begun : (row_named h j e).hold ≤ word h day_place
  pub toll : StorableRow (freed_row h j e)
