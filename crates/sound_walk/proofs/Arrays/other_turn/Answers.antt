-- `other_turn` meets its contract: the first test that fails decides; a fee is its turn's, and another row that stands is added as a source
-- or a debit.
use Rattle.sound_walk.specs.Walks.{Stands}
use Rattle.sound_walk.proofs.WalkLaws.{none-held, no_source, walks-bad, row-unfit, row-stands, row-debit, row-addable, row-walks}
use Rattle.sound_passages.proofs.TreeLaws.{trees-skip}
use Rattle.sound_fees.proofs.FeeLaws.{counted_skip}
use Rattle.account_sums.proofs.AccountSumsLaws.{source-added, debit-added}
use Rattle.sound_journal.specs.Passing.{frame_rows}
use mathlib.Core.Bool.{false}
use mathlib.Core.Path.{sym, ◌∙◌}
use Rattle.sound_walk.proofs.Arrays.other_turn.Goals as goal
use Rattle.sound_walk.proofs.Arrays.other_turn.Goals.{Else-not-other_passes}

stands : (e : Else-not-other_passes) → Stands e.args.f.now e.args.i e.args.r
stands e = row-stands e.args.f.now e.args.i e.args.r e.requires.0 (sym e.other_passes.ensures ∙ e.if-not-other_passes.false)

pub returns-then-not-other_passes-clause-walks : goal.returns-then-not-other_passes-clause-walks
returns-then-not-other_passes-clause-walks c =
    walks-bad c.args.f.now (row-unfit c.args.f.now c.args.i c.args.r c.requires.0 (sym c.other_passes.ensures ∙ c.if-not-other_passes.true))

pub fee_turn-requires : goal.fee_turn-requires
fee_turn-requires c = (stands (goal.at.fee_turn-requires c).Else-not-other_passes, c.if-r-eq-KIND_FEE.true, c.requires.3)

pub add_source-requires : goal.add_source-requires
add_source-requires c =
    row-addable c.args.f.now c.args.i c.args.r (stands (goal.at.add_source-requires c).Else-not-other_passes) c.requires.3.tallies

pub returns-then-r-eq-KIND_CREDIT-clause-walks : goal.returns-then-r-eq-KIND_CREDIT-clause-walks
returns-then-r-eq-KIND_CREDIT-clause-walks c =
    let f = c.args.f.now in
    let a = c.args.self.now in
    let t = stands (goal.at.returns-then-r-eq-KIND_CREDIT-clause-walks c).Else-not-other_passes in
    let k = c.if-r-eq-KIND_CREDIT.true in
    let w = c.requires.3 in
    let d = source-added f.rows.journal.now f.rows.used a.sums.now c.args.i w.tallies c.args.r t.same (row-addable f c.args.i c.args.r t w.tallies) false (rw k) (rw k) in
    row-walks f c.args.i c.args.r t w w.held (trees-skip a.space f.rows.journal.now a.cells.now c.args.i w.trees (rw t.same at c.requires.1))
    (counted_skip a.space f.rows.journal.now a.counts.now c.args.i w.fees (rw t.same at c.if-r-eq-KIND_FEE.false))
    (rw c.add_source.ensures d)

pub add_debit-requires : goal.add_debit-requires
add_debit-requires c =
    row-addable c.args.f.now c.args.i c.args.r (stands (goal.at.add_debit-requires c).Else-not-other_passes) c.requires.3.tallies

pub returns-clause-walks : goal.returns-clause-walks
returns-clause-walks c =
    let f = c.args.f.now in
    let a = c.args.self.now in
    let t = stands (goal.at.returns-clause-walks c).Else-not-other_passes in
    let q = c.if-r-eq-KIND_FEE.false in
    let w = c.requires.3 in
    let n = no_source c.args.r c.requires.2 c.if-r-eq-KIND_CREDIT.false in
    let d = debit-added f.rows.journal.now f.rows.used a.sums.now c.args.i w.tallies c.args.r t.same (row-addable f c.args.i c.args.r t w.tallies) false (none-held (frame_rows f) c.args.r c.requires.1 q) n (row-debit f c.args.i c.args.r t n) in
    row-walks f c.args.i c.args.r t w w.held (trees-skip a.space f.rows.journal.now a.cells.now c.args.i w.trees (rw t.same at c.requires.1))
    (counted_skip a.space f.rows.journal.now a.counts.now c.args.i w.fees (rw t.same at q))
    (rw c.add_debit.ensures d)
