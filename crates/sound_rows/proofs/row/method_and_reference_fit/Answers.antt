-- `method_and_reference_fit` meets its contract: each way through the tests decides both clauses.
use Rattle.rules.specs.Soundness.{mark_fits, no_reference}
use borrow.Author.Tests.{eq-eqb, ne_eqb}
use native.Mathlib.Omega.{arith}
use Rattle.sound_rows.proofs.row.method_and_reference_fit.Goals as goal

pub returns-then-r-eq-KIND_PAYMENT : goal.returns-then-r-eq-KIND_PAYMENT
unfolding mark_fits no_reference
returns-then-r-eq-KIND_PAYMENT c =
    let r = c.args.r in
    simp (c.between.ensures, ne_eqb r.kind 1 (λ e. omega arith), eq-eqb r.kind 4 (omega arith))

pub returns-then-r-ne0 : goal.returns-then-r-ne0
unfolding mark_fits
returns-then-r-ne0 c =
    let r = c.args.r in
    simp (ne_eqb r.kind 1 (λ e. omega arith), ne_eqb r.kind 4 (λ e. omega arith), ne_eqb r.mark 0 (λ e. omega arith))

pub returns-then-r-ne-KIND_REFUND : goal.returns-then-r-ne-KIND_REFUND
unfolding mark_fits no_reference
returns-then-r-ne-KIND_REFUND c =
    let r = c.args.r in
    simp (ne_eqb r.kind 1 (λ e. omega arith), ne_eqb r.kind 4 (λ e. omega arith), eq-eqb r.mark 0 (omega arith), ne_eqb r.kind 6 (λ e. omega arith))

pub returns : goal.returns
unfolding mark_fits no_reference
returns c =
    let r = c.args.r in
    simp (ne_eqb r.kind 1 (λ e. omega arith), ne_eqb r.kind 4 (λ e. omega arith), eq-eqb r.mark 0 (omega arith), eq-eqb r.kind 6 (omega arith))
