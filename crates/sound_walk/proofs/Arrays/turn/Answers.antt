-- `turn` meets its contract: a toll and a row of another kind are their turns', and a payment that stands is added.
use Rattle.sound_walk.specs.Walks.{Turn, Stands}
use Rattle.sound_walk.proofs.WalkLaws.{walks-bad, row-unfit, row-stands, row-addable, row-walks}
use Rattle.sound_passages.proofs.TreeLaws.{trees-skip}
use Rattle.sound_fees.proofs.FeeLaws.{counted_skip}
use Rattle.account_sums.proofs.AccountSumsLaws.{source-added}
use lib.Dec.{eqb}
use mathlib.Core.Path.{sym, ◌∙◌}
use native.Mathlib.Omega.{arith}
use Rattle.sound_walk.proofs.Arrays.turn.Goals as goal
use Rattle.sound_walk.proofs.Arrays.turn.Goals.{After-plain_row-r, Else-not-payment_passes}

read : (p : After-plain_row-r) → Turn p.args.f.now p.args.i p.plain_row-r.result
read p = record { inside = p.requires.0; alike = p.plain_row-r.ensures }

-- a payment that stands
stands : (e : Else-not-payment_passes) → Stands e.args.f.now e.args.i e.plain_row-r.result
stands e =
    row-stands e.args.f.now e.args.i e.plain_row-r.result (record { inside = e.requires.0; alike = e.plain_row-r.ensures }) (sym (e.payment_passes.ensures _ _) ∙ e.if-not-payment_passes.false)

pub returns-then-not-payment_passes-clause-walks : goal.returns-then-not-payment_passes-clause-walks
returns-then-not-payment_passes-clause-walks c =
    walks-bad c.args.f.now
    (row-unfit c.args.f.now c.args.i c.plain_row-r.result (read (goal.at.returns-then-not-payment_passes-clause-walks c).After-plain_row-r) (sym (c.payment_passes.ensures _ _) ∙ c.if-not-payment_passes.true))

pub add_source-requires : goal.add_source-requires
add_source-requires c =
    row-addable c.args.f.now c.args.i c.plain_row-r.result (stands (goal.at.add_source-requires c).Else-not-payment_passes) c.requires.1.tallies

pub returns-clause-walks : goal.returns-clause-walks
returns-clause-walks c =
    let f = c.args.f.now in
    let a = c.args.self.now in
    let r = c.plain_row-r.result in
    let t = stands (goal.at.returns-clause-walks c).Else-not-payment_passes in
    let k = c.if-r-ne-KIND_PAYMENT.false in
    let z = rw t.same at k in
    let w = c.requires.1 in
    let d = source-added f.rows.journal.now f.rows.used a.sums.now c.args.i w.tallies r t.same (row-addable f c.args.i r t w.tallies) (eqb r.mark 4) (rw k) (rw k) in
    row-walks f c.args.i r t w w.held (trees-skip a.space f.rows.journal.now a.cells.now c.args.i w.trees (λ y. omega arith))
    (counted_skip a.space f.rows.journal.now a.counts.now c.args.i w.fees (λ y. omega arith))
    (rw c.add_source.ensures d)
