-- `holds::count_held` meets its contract: the count takes the row's share.
use mathlib.Core.Path.{◌≡◌, ◌∙◌}
use mathlib.Core.Bool.{cond}
use Rattle.account_sums.proofs.SumsLaws.{one-small, share-skipped, share-asked, share-added}
use Rattle.tick_base.specs.Remainders.{counted}
use Rattle.tick_base.proofs.StageLaws.{share-counted}
use Rattle.tick_base.proofs.holds.count_held.Goals as goal

pub returns-then-dispute_at-ne-DISPUTE_HELD : goal.returns-then-dispute_at-ne-DISPUTE_HELD
returns-then-dispute_at-ne-DISPUTE_HELD g c = λ u m s.
    share-skipped (counted u) u (λ r. 1) (share-counted u) _ _ _ s (m.held _ (λ e. c.if-dispute_at-ne-DISPUTE_HELD.true (c.dispute_at.ensures ∙ e)))

pub add-requires : goal.add-requires
add-requires g c =
    let u = c.requires.1 in
    let w : c.part.result ≡ cond (u c.read_row-r.result) 1 0 = rw (← c.requires.2.gives _ _ c.test.ensures) c.part.ensures in
    share-asked (counted u) u (λ r. 1) (share-counted u) c.args.countable.now.rows.journal.now c.args.counts.now c.args.i c.requires.3 c.args.countable.now.rows.used c.args.countable.now.countable c.requires.0
    c.read_row-r.result c.read_row-r.ensures c.part.result w (one-small c.args.countable.now.rows.journal.now c.args.countable.now.rows.used c.args.countable.now.countable)

pub returns : goal.returns
returns g c = λ u m s.
    let w : c.part.result ≡ cond (u c.read_row-r.result) 1 0 = c.part.ensures ∙ rw (m.gives _ _ c.test.ensures) in
    share-added (counted u) u (λ r. 1) (share-counted u) c.args.countable.now.rows.journal.now c.args.counts.now c.args.i s c.args.countable.now.rows.used c.args.countable.now.countable c.requires.0
    c.read_row-r.result c.read_row-r.ensures c.part.result w _ c.add.ensures
