-- `passage_found` meets its contract: some row is a toll of the passage number, or none of them is.
use Rattle.std.proofs.Common.{rules}
use native.Mathlib.Omega.{arith}
use mathlib.Core.Bool.{true, false}
use mathlib.Core.Path.{◌≡◌, refl}
use Rattle.std.proofs.lemmas.Iterator.{cases_from_any, YieldsList-from_range}
use Rattle.records.specs.Encoding.{row_at}
use Rattle.event_lookups.proofs.PassageLaws.{toll_of, passage-either}
use Rattle.event_lookups.proofs.passage_found.Goals as goal

pub returns : goal.returns
returns c =
    let j = c.args.rows.now.journal.now in
    let p = c.args.passage in
    let n = c.args.rows.now.used in
    passage-either j p n c.any.result
    (cases_from_any _ _ _ (λ i. toll_of p (row_at j i) ≡ true) (λ i. toll_of p (row_at j i) ≡ false) c.any.ensures.ran
    (YieldsList-from_range 0 n n refl (omega arith)) (λ i q d. search rules) (λ i q d. search rules))
