-- Heavy debtors (document 02, No. 7).
use Rattle.std.specs.Prelude.{Bool, not, ◌&&◌, ◌||◌, ℕ, List, length, take, ltb}
use Rattle.lists.specs.Tests.{◌is◌}
use Rattle.lists.specs.Lists.{sum_by, only, least}
use Rattle.records.specs.Limits.{heavy_debt}
use Rattle.rules.specs.Rows.{Row, Test, kind_fee, toll, held, remaining}
use Rattle.rules.specs.Book.{Book}

-- "unheld tolls and fees of the account": fees of returned checks too, reversals not
unfoldable pub counted_debt : List Row → ℕ → Test
counted_debt rows a r = r.account is a && ((toll r || r.kind is kind_fee) && not (held rows r))

-- "the unsettled part" of these in the first n rows
unfoldable pub debt_in : List Row → ℕ → ℕ → ℕ
debt_in rows a n = sum_by (only (counted_debt rows a) remaining) (take n rows)

-- "exceed 25,000 cents", by the first n rows
unfoldable pub heavy_by : List Row → ℕ → ℕ → Bool
heavy_by rows a n = ltb heavy_debt (debt_in rows a n)

-- "000 calls a violator chronic when unpaid tolls and fees exceed 25,000 cents": "the same as from reading all rows"
unfoldable pub heavy : Book → ℕ → Bool
heavy b a = heavy_by b.rows a (length b.rows)

-- "the smallest count of first rows whose sum exceeds 25,000, or else all used rows"
unfoldable pub rows_read : Book → ℕ → ℕ
rows_read b a = least (heavy_by b.rows a) (length b.rows)
