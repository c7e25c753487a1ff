-- `read_digits` meets its contract: each turn reads a digit; another byte ends it.
use Rattle.std.proofs.Common.{arith, sym, ◌∙◌, rules}
use Rattle.decimal.proofs.ReadingLaws.{magnitude-empty, magnitude-long, digit-small, reading-room, reading-more, reading-stop, reading-all}
use Rattle.decimal.proofs.read_digits.Goals as goal
use Rattle.decimal.proofs.read_digits.Goals.{then-is_empty-via-then-is_empty, then-is_empty-via-else-is_empty+then-bytes-gt-MOST_DIGITS}

pub returns-then-is_empty : goal.returns-then-is_empty
returns-then-is_empty c = elim c.then-is_empty.branch [
  | then-is_empty-via-then-is_empty w ↦ sym (magnitude-empty _ (search rules))
  | then-is_empty-via-else-is_empty+then-bytes-gt-MOST_DIGITS w ↦ sym (magnitude-long _ (omega arith))
]

pub overflow_mul-v : goal.overflow_mul-v
overflow_mul-v c = record { fits = omega (arith, reading-room _ _ _ c.loop-b.invariant (omega arith) (omega arith)) }

pub returns-in_err-v : goal.returns-in_err-v
returns-in_err-v c = c.from_residual.ensures ∙ reading-stop _ _ _ c.loop-b.invariant (omega arith) (omega arith) c.in_err-v.ensures

pub overflow_add-v : goal.overflow_add-v
overflow_add-v c = record {
  fits = omega (arith, reading-room _ _ _ c.loop-b.invariant (omega arith) (omega arith), digit-small _ c.in_ok-v.field-0 c.in_ok-v.ensures);
}

pub loop-b-preserved : goal.loop-b-preserved
loop-b-preserved c = reading-more _ _ _ c.loop-b.invariant (omega arith) _ c.in_ok-v.ensures

pub returns : goal.returns
returns c = reading-all _ _ _ c.loop-b.invariant (omega arith) (search rules) (omega arith)
