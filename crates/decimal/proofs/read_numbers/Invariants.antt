use Rattle.std.specs.Option.{option_copied}
use Rattle.decimal.specs.Decimal.{fields_of}
use Rattle.decimal.proofs.FieldLaws.{fields_left, Fields}
use Rattle.decimal.proofs.read_numbers.Given as goal

abbrev pub invariant-loop-i : goal.invariant-loop-i
invariant-loop-i g l = Fields (fields_of l.line) (fields_left (option_copied l.rest)) l.values g.row.N l.i
