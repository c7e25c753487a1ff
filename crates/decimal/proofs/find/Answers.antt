-- `find` meets its contract: the first match, or the length where there is none.
use Rattle.std.proofs.Common.{rules, tests, ap, ◌∙◌, length, unwrap_or, Option, ℕ, eqb}
use Rattle.std.proofs.lemmas.Iterator.{YieldsList-from_slice}
use Rattle.std.proofs.lemmas.Iterator.Search.{position_from_yields_List}
use Rattle.decimal.proofs.FindLaws.{index_of-le, position-index_of, place-or-length}
use Rattle.decimal.proofs.find.Goals as goal

pub returns-clause-value : goal.returns-clause-value
returns-clause-value c =
    let n = length c.args.bytes.now in
    let first = position_from_yields_List (λ (x : ℕ). eqb x c.args.b) _ _ c.position.result c.position.ensures.ran
    (YieldsList-from_slice c.args.bytes.now cc) (λ x b q k. search (rules, tests)) in
    ap (λ (o : Option ℕ). unwrap_or o n) first
    ∙ rw (position-index_of c.args.b c.args.bytes.now) (place-or-length _ n (index_of-le c.args.b c.args.bytes.now))
