-- `fees::with_fees` meets its contract: the sum is that of the toll and of the fees among the rows passed.
use native.Mathlib.Omega.{arith}
use mathlib.Core.Path.{◌≡◌, sym, ◌∙◌}
use Rattle.event_decision.specs.Decision.{toll_and_fees}
use Rattle.event_decision.proofs.FeeLaws.{sum-start, sum-fee, sum-other, sum_fits}
use Rattle.event_decision.proofs.fees.with_fees.Goals as goal
use Rattle.event_decision.proofs.fees.with_fees.Goals.{then-is_fee_of, else-is_fee_of}

pub loop-i-init : goal.loop-i-init
loop-i-init g c = λ f m.
    sum-start c.args.summable.rows.journal.now c.args.summable.rows.used f c.args.n _ _ c.numbered.ensures (m.gives _ _ c.part-sum.ensures)

pub overflow_add-sum : goal.overflow_add-sum
overflow_add-sum g c =
    let m = c.requires.1 in
    omega (arith, sum_fits c.args.summable.rows.journal.now c.args.summable.rows.used c.requires.0 c.args.n m.within c.args.summable.amounts _ _ _ _ c.loop-i-test.true (c.loop-i.invariant _ m) c.read_row-r.ensures (m.gives _ _ c.part-sum-then-is_fee_of.ensures))

pub loop-i-preserved : goal.loop-i-preserved
loop-i-preserved g c = λ f m.
    elim c.if-is_fee_of.branch [
      | then-is_fee_of w ↦
          w.sum-is ∙ sum-fee c.args.summable.rows.journal.now c.args.summable.rows.used f c.args.n _ _ _ _ (c.loop-i.invariant f m) c.read_row-r.ensures (sym c.is_fee_of.ensures ∙ w.if-is_fee_of.true) (m.gives _ _ w.part-sum-then-is_fee_of.ensures)
      | else-is_fee_of w ↦
          w.sum-is ∙ sum-other c.args.summable.rows.journal.now c.args.summable.rows.used f c.args.n _ _ _ (c.loop-i.invariant f m) c.read_row-r.ensures (sym c.is_fee_of.ensures ∙ w.if-is_fee_of.false)
    ]

pub returns : goal.returns
unfolding toll_and_fees
returns g c = λ f m.
    let e : c.loop-i.i ≡ c.args.summable.rows.used = omega arith in rw e at (c.loop-i.invariant f m)
