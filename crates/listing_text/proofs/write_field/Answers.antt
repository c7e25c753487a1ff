-- `write_field` meets its contract: at most 20 digits, then one byte.
use Rattle.std.proofs.Common.{arith}
use Rattle.decimal.proofs.RoundTrip.{digits-short}
use Rattle.listing_text.proofs.write_field.Goals as goal

pub push_digits-requires : goal.push_digits-requires
push_digits-requires g c = omega (arith, digits-short 19 c.args.n (omega arith))

pub push-requires : goal.push-requires
push-requires g c = omega (arith, digits-short 19 c.args.n (omega arith))

pub returns-clause-short : goal.returns-clause-short
returns-clause-short g c = omega (arith, digits-short 19 c.args.n (omega arith))
