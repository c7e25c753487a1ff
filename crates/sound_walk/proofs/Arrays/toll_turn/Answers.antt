-- `toll_turn` meets its contract: the first test that fails decides, and a toll that stands is inserted and added.
use Rattle.sound_walk.specs.Walks.{Stands}
use Rattle.sound_walk.proofs.WalkLaws.{toll-held, unfit-passage, walks-bad, row-unfit, row-stands, row-addable, row-walks}
use Rattle.sound_fees.proofs.FeeLaws.{counted_skip}
use Rattle.account_sums.proofs.AccountSumsLaws.{debit-added}
use Rattle.sound_journal.specs.Passing.{frame_rows}
use mathlib.Core.Path.{sym, ◌∙◌}
use native.Mathlib.Omega.{arith}
use Rattle.sound_walk.proofs.Arrays.toll_turn.Goals as goal
use Rattle.sound_walk.proofs.Arrays.toll_turn.Goals.{Else-not-toll_passes}

stands : (e : Else-not-toll_passes) → Stands e.args.f.now e.args.i e.args.r
stands e = row-stands e.args.f.now e.args.i e.args.r e.requires.0 (sym (e.toll_passes.ensures _ _) ∙ e.if-not-toll_passes.false)

pub returns-then-not-toll_passes-clause-walks : goal.returns-then-not-toll_passes-clause-walks
returns-then-not-toll_passes-clause-walks c =
    walks-bad c.args.f.now (row-unfit c.args.f.now c.args.i c.args.r c.requires.0 (sym (c.toll_passes.ensures _ _) ∙ c.if-not-toll_passes.true))

pub insert_toll-requires : goal.insert_toll-requires
insert_toll-requires c =
    let t = stands (goal.at.insert_toll-requires c).Else-not-toll_passes in
    let w = c.requires.2 in
    (omega (arith, c.args.f.now.rows.within, t.inside), omega (arith, w.held, t.inside), w.trees, rw t.same at c.requires.1, rw t.same)

pub returns-then-not-insert_toll-clause-walks : goal.returns-then-not-insert_toll-clause-walks
returns-then-not-insert_toll-clause-walks c =
    walks-bad c.args.f.now (unfit-passage c.args.f.now (c.insert_toll.ensures.bad c.if-not-insert_toll.true c.args.f.now.rows.used c.requires.0.inside))

pub add_debit-requires : goal.add_debit-requires
add_debit-requires c =
    row-addable c.args.f.now c.args.i c.args.r (stands (goal.at.add_debit-requires c).Else-not-toll_passes) c.requires.2.tallies

pub returns-clause-walks : goal.returns-clause-walks
returns-clause-walks c =
    let f = c.args.f.now in
    let t = stands (goal.at.returns-clause-walks c).Else-not-toll_passes in
    let k = c.requires.1 in
    let w = c.requires.2 in
    let a = row-addable f c.args.i c.args.r t w.tallies in
    let d = debit-added f.rows.journal.now f.rows.used c.args.self.now.sums.now c.args.i w.tallies c.args.r t.same a _ (toll-held (frame_rows f) c.args.r k) (rw k) (rw k) in
    row-walks f c.args.i c.args.r t w w.held (c.insert_toll.ensures.good c.if-not-insert_toll.false)
    (counted_skip c.args.self.now.space f.rows.journal.now c.args.self.now.counts.now c.args.i w.fees (λ z. omega (arith, rw t.same at k)))
    (rw c.add_debit.ensures d)
