-- `read_numbers` meets its contract: each turn reads the field up to the next comma.
use Rattle.std.proofs.Common.{◌≡◌, arith, ◌∙◌, ap, Some, rules, FitsSigned, w64}
use mir.Facts.{to_z-of_z}
use Rattle.decimal.proofs.FieldLaws.{fields_next, fields-more, fields-other, fields-bad, numbers-bad, fields-some, fields-all, fields-held}
use Rattle.decimal.proofs.read_numbers.Goals as goal

-- no field is left
pub returns-in_err-rest : goal.returns-in_err-rest
returns-in_err-rest g c =
    let r = rw c.in_err-rest.was at c.loop-i.invariant in
    rw c.from_residual.ensures (fields-other _ _ _ _ _ r (λ e. omega (arith, r.counted)))

-- the field states no number
pub returns-in_err-values : goal.returns-in_err-values
returns-in_err-values g c =
    let r = rw (c.in_ok-rest.was, fields_next _ _ _ c.next_field.ensures) at c.loop-i.invariant in
    rw c.from_residual-in_err-values.ensures (fields-bad _ _ _ _ _ r (numbers-bad _ _ c.in_err-values.ensures))

pub loop-i-preserved : goal.loop-i-preserved
loop-i-preserved g c =
    let r = rw (c.in_ok-rest.was, fields_next _ _ _ c.next_field.ensures) at c.loop-i.invariant in
    let fits : FitsSigned w64 c.in_ok-values.field-0 = search rules in
    fields-more _ _ _ _ _ _ _ r c.loop-i-test.true (ap Some (to_z-of_z fits) ∙ c.in_ok-values.ensures)

-- another field is left
pub returns-in-Some : goal.returns-in-Some
returns-in-Some g c =
    let r = rw c.in-Some.is at c.loop-i.invariant in
    fields-other _ _ _ _ _ r (λ e. omega (arith, r.counted, fields-some c.in-Some.field-0.now))

pub returns-in-None : goal.returns-in-None
returns-in-None g c =
    let all : c.loop-i.i ≡ g.row.N = omega arith in
    let r = rw (c.in-None.is, all) at c.loop-i.invariant in
    (fields-all _ _ _ r, fields-held _ _ _ r)
