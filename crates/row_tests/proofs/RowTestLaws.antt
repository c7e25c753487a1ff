-- Which rows are held, one law for each way through the test.
use mathlib.Core.Path.{◌≡◌, refl}
use mathlib.Core.Bool.{Bool, true, false, ◌||◌}
use mathlib.Core.List.{List}
use borrow.Author.Tests.{ne_eqb}
use Rattle.records.specs.Codes.{kind_fee}
use Rattle.rules.specs.Rows.{Row, row_no, held_toll, held}

-- a fee is held while its toll is, any other row while it is a held toll
pub held-fee : (rows : List Row) (r : Row) → r.kind ≡ kind_fee → held_toll (row_no rows r.reference) ≡ held rows r
unfolding held
held-fee rows r e = rw e

pub held-other : (rows : List Row) (r : Row) → (r.kind ≡ kind_fee → ⊥) → held_toll r ≡ held rows r
unfolding held
held-other rows r n = rw (ne_eqb r.kind 2 n) (go (held_toll r))
  where
    go : (b : Bool) → b ≡ (b || false)
    go true = refl
    go false = refl
