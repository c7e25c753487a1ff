-- `fee_turn` meets its contract: the fee is counted at the row that it names, and added where that has not too many.
use Rattle.row_tests.proofs.RowTestLaws.{held-fee}
use Rattle.sound_walk.proofs.WalkLaws.{unfit-fees, walks-bad, row-earlier, row-addable, row-walks}
use Rattle.sound_passages.proofs.TreeLaws.{trees-skip}
use Rattle.sound_fees.proofs.FeeLaws.{counts-fit, counted-fee, counted-over}
use Rattle.account_sums.proofs.AccountSumsLaws.{debit-added}
use Rattle.sound_journal.specs.Passing.{frame_rows}
use Prim.Native.Nat.{◌≤◌}
use mathlib.Core.Path.{sym, ◌∙◌}
use native.Mathlib.Omega.{arith}
use Rattle.sound_walk.proofs.Arrays.fee_turn.Goals as goal
use Rattle.sound_walk.proofs.Arrays.fee_turn.Goals.{Start}

-- it names a used row
named-used : (s : Start) → s.args.r.reference ≤ s.args.f.now.rows.used
named-used s =
    let t = s.requires.0 in
    omega (arith, t.inside, row-earlier s.args.f.now s.args.i s.args.r t s.requires.1)

pub count_fee-requires : goal.count_fee-requires
count_fee-requires c =
    let a = c.args.self.now in
    let w = c.requires.2 in
    let t = c.requires.0 in
    let n = named-used (goal.at.count_fee-requires c).Start in
    (omega (arith, n, w.held, w.fees.tallied.sized), counts-fit a.space c.args.f.now.rows.journal.now a.counts.now c.args.i w.fees c.args.r.reference (omega (arith, n, w.held)) (omega (arith, t.inside, c.args.f.now.bounds.few)))

pub returns-then-not-count_fee-clause-walks : goal.returns-then-not-count_fee-clause-walks
returns-then-not-count_fee-clause-walks c =
    let f = c.args.f.now in
    let a = c.args.self.now in
    let t = c.requires.0 in
    let w = c.requires.2 in
    walks-bad f (unfit-fees f
    (counted-over a.space f.rows.journal.now a.counts.now c.args.i w.fees f.rows.used c.args.r.reference (rw t.same at c.requires.1) (rw t.same) (named-used (goal.at.returns-then-not-count_fee-clause-walks c).Start) w.held t.inside
    (rw c.numbered-named.ensures at (sym c.count_fee.ensures.few ∙ c.if-not-count_fee.true))))

pub add_debit-requires : goal.add_debit-requires
add_debit-requires c = row-addable c.args.f.now c.args.i c.args.r c.requires.0 c.requires.2.tallies

pub returns-clause-walks : goal.returns-clause-walks
returns-clause-walks c =
    let f = c.args.f.now in
    let a = c.args.self.now in
    let t = c.requires.0 in
    let k = c.requires.1 in
    let w = c.requires.2 in
    let d = debit-added f.rows.journal.now f.rows.used a.sums.now c.args.i w.tallies c.args.r t.same (row-addable f c.args.i c.args.r t w.tallies) c.held_toll.result
    (c.held_toll.ensures ∙ rw c.numbered-named.ensures (held-fee (frame_rows f) c.args.r k)) (rw k) (rw k) in
    row-walks f c.args.i c.args.r t w w.held (trees-skip a.space f.rows.journal.now a.cells.now c.args.i w.trees (λ z. omega (arith, rw t.same at k)))
    (rw c.count_fee.ensures.counted
    (counted-fee a.space f.rows.journal.now a.counts.now c.args.i w.fees f.rows.used c.args.r.reference (rw t.same at k) (rw t.same) (named-used (goal.at.returns-clause-walks c).Start) w.held
    (rw c.numbered-named.ensures at (sym c.count_fee.ensures.few ∙ c.if-not-count_fee.false))))
    (rw c.add_debit.ensures d)
