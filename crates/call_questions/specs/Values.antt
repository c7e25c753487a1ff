-- The value that a question is answered with: a refused one has none, and the host reads 0.
use Rattle.std.specs.Prelude.{Bool, cond, ℤ, pos, Result, Ok, Err}
use Rattle.records.specs.declared.refusals.Refusal.{Refusal}
use Rattle.balances.specs.declared.debtor.Debtor.{Debtor}

-- an integer, 0 where the question is refused
abbrev pub value_of : Result ℤ Refusal → ℤ
value_of (Ok v) = v
value_of (Err r) = pos 0

-- 1 for yes, 0 for no or where the question is refused
abbrev pub flag_of : Result Bool Refusal → ℤ
flag_of (Ok due) = pos (cond due 1 0)
flag_of (Err r) = pos 0

-- yes or no, 0 where the question about a debtor is refused
abbrev pub heavy_of : Result Debtor Refusal → ℤ
heavy_of (Ok d) = pos (cond d.heavy 1 0)
heavy_of (Err r) = pos 0

-- how many rows were read, 0 where the question is refused
abbrev pub rows_read_of : Result Debtor Refusal → ℤ
rows_read_of (Ok d) = pos d.rows
rows_read_of (Err r) = pos 0
