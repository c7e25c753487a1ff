-- `small_amount` meets its contract: the word is the row's field.
use Rattle.records.specs.Encoding.{row_from}
use native.Mathlib.Omega.{arith}
use Rattle.plain_rows.proofs.small_amount.Goals as goal

pub get_small-requires : goal.get_small-requires
unfolding row_from
get_small-requires c = (omega arith, c.requires.1)

pub returns : goal.returns
unfolding row_from
returns c = c.get_small.ensures
